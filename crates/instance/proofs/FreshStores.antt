-- The store of a new instance is one of its module.
use Rattle.std.proofs.Common.{◌≡◌, ℕ, ◌+◌, ◌*◌, ◌<◌, ◌≤◌, List, [], ◌∷◌, ◌++◌, length, map, take, drop, replicate, Option, Some, None, refl, sym, ◌∙◌, subst, arith, length-append, length-drop}
use Rattle.std.specs.Prelude.{All}
use Rattle.std.proofs.lemmas.List.{length-take-le, length-replicate, length-map}
use Rattle.std.proofs.lemmas.List.Elements.{All-append, All-take, All-drop, All-tail, All-cons, All-nil, All-replicate}
use Rattle.limits.specs.declared.TheConstants.{PAGE_SIZE}
use Rattle.syntax.specs.declared.contents.Contents.{Contents}
use Rattle.syntax.specs.declared.contents.Element.{Element}
use Rattle.syntax.specs.declared.contents.Data.{Data}
use Rattle.valid.specs.Typing.{function_types}
use Rattle.valid.specs.Valid.{ValidModule, ValidElement}
use Rattle.valid.specs.Segments.{ElementFits, DataFits, offset_in, minimum}
use Rattle.instance.specs.Store.{Store}
use Rattle.instance.specs.Fresh.{IsFresh, overwritten, with_element, with_data, all_written, fresh_store}
use Rattle.instance.specs.Storing.{NamesFunction, IsStoreOf}
use Rattle.instance.proofs.Initial.{initial_types}

first_of : {X : Type 0} (P : X → Type 0) (x : X) (xs : List X) → All P (x ∷ xs) → P x
first_of P x xs k = k 0 x (omega arith)

over_length : {X : Type 0} (at : ℕ) (xs old : List X) → at + length xs ≤ length old → length (overwritten at xs old) ≡ length old
over_length at xs old h =
    let a : at ≤ length old = omega arith in
    length-append (take at old) (xs ++ drop (at + length xs) old) ∙ omega (arith, length-take-le at old a, length-append xs (drop (at + length xs) old), length-drop (at + length xs) old)

module _ (m : Contents) where
  named : (functions : List ℕ) → All (λ f. f < length (function_types m)) functions → All (NamesFunction m) (map (λ (f : ℕ). Some f) functions)
  named [] k = All-nil (NamesFunction m)
  named (f ∷ functions) k =
      All-cons (NamesFunction m) (Some f) (map (λ (g : ℕ). Some g) functions) (first_of (λ (g : ℕ). g < length (function_types m)) f functions k)
      (named functions (All-tail (λ (g : ℕ). g < length (function_types m)) f functions k))

  table_written : (elements : List Element) (table : List (Option ℕ)) → length table ≡ minimum m.table → All (NamesFunction m) table → All (ElementFits m) elements → All (ValidElement m) elements
      → (length (all_written with_element table elements) ≡ minimum m.table) × All (NamesFunction m) (all_written with_element table elements)
  table_written [] table n a f v = (n, a)
  table_written (e ∷ elements) table n a f v =
      let at = offset_in e.offset in
      let xs = map (λ (g : ℕ). Some g) e.functions in
      let fits : ElementFits m e = first_of (ElementFits m) e elements f in
      let valid = first_of (ValidElement m) e elements v in
      let k : length xs ≡ length e.functions = length-map e.functions (λ (g : ℕ). Some g) in
      let h : at + length xs ≤ length table = omega arith in
      let a' = All-append (NamesFunction m) (take at table) (xs ++ drop (at + length xs) table) (All-take (NamesFunction m) at table a)
      (All-append (NamesFunction m) xs (drop (at + length xs) table) (named e.functions valid.functions) (All-drop (NamesFunction m) (at + length xs) table a)) in
      table_written elements (with_element table e) (over_length at xs table h ∙ n) a' (All-tail (ElementFits m) e elements f) (All-tail (ValidElement m) e elements v)

  bytes_written : (segments : List Data) (bytes : List ℕ) → length bytes ≡ minimum m.memory * PAGE_SIZE → All (DataFits m) segments
      → length (all_written with_data bytes segments) ≡ minimum m.memory * PAGE_SIZE
  bytes_written [] bytes n f = n
  bytes_written (d ∷ segments) bytes n f =
      let at = offset_in d.offset in
      let fits : DataFits m d = first_of (DataFits m) d segments f in
      let h : at + length d.bytes ≤ length bytes = omega arith in
      bytes_written segments (with_data bytes d) (over_length at d.bytes bytes h ∙ n) (All-tail (DataFits m) d segments f)

  pub is_store_of : (s : Store) → ValidModule m → IsFresh m s → IsStoreOf m s
  is_store_of s v k = subst (λ (x : Store). IsStoreOf m x) (sym k.store) of_fresh where
    of_fresh : IsStoreOf m (fresh_store m)
    of_fresh =
        let t =
        table_written m.elements (replicate (minimum m.table) None) (length-replicate {A = Option ℕ} (minimum m.table) None)
        (All-replicate (NamesFunction m) (minimum m.table) None tt) k.segments.elements v.elements in
        let b = bytes_written m.«data» (replicate (minimum m.memory * PAGE_SIZE) 0) (length-replicate {A = ℕ} (minimum m.memory * PAGE_SIZE) 0) k.segments.data_segments in
        record {
          globals = initial_types m.globals v.globals;
          table = t.0;
          elements = t.1;
          limit = refl;
          memory = record { count = minimum m.memory; whole = b; enough = omega arith; within = omega arith };
        }
