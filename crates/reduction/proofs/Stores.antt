-- A run keeps what the stores of a module have.
use Rattle.reduction.proofs.Words.{AwaitsWithin, Contents, HasFunctionType, if◌then◌else◌, length-append, length-drop, length-take-le, SoundWithin, with_memory}
use Rattle.reduction.proofs.Words.{All, arith, Bounded, Calls, Context, false, FuncType, IsStoreOf, length, nat_le, pushed, replicate, Stuck, types_of, ValType}
use Rattle.reduction.proofs.Words.{ap, Bool, drop, Ends, Goes, List, Move, next, None, refl, Some, sym, take, Traps, true, ℕ, [], ◌*◌, ◌++◌, ◌+◌, ◌∙◌, ◌≡◌, ◌≤◌}
use Rattle.std.proofs.Common.{◌/◌}
use Rattle.std.proofs.Math.Nat.{mul-div_cancel}
use Rattle.std.proofs.lemmas.List.{length-replicate}
use Rattle.limits.specs.declared.TheConstants.{PAGE_SIZE}
use Rattle.valid.specs.Segments.{minimum}
use Rattle.instance.specs.Store.{Store as Stored, page_limit, pages, grown, written_at}
use Rattle.instance.specs.Storing.{NamesFunction, HasPages}
use Rattle.reduction.proofs.Lists.{at_least}
use Rattle.reduction.proofs.HeightsSound.{sound_within}
use Rattle.reduction.proofs.PlainStepView.{StoreLeft, same_store, global_set, written, enlarged}
use Rattle.reduction.proofs.Rules.{LeavesStore, store_after}

-- what a store has beside its globals
record Rest (m : Contents) (s : Stored) : Type 0 where
  pub table : length s.table ≡ minimum m.table
  pub elements : All (NamesFunction m) s.table
  pub limit : s.limit ≡ page_limit m.memory
  pub memory : HasPages s.limit (minimum m.memory) s.memory

rest_of : (m : Contents) (s : Stored) → IsStoreOf m s → Rest m s
rest_of m s k = record { table = k.table; elements = k.elements; limit = k.limit; memory = k.memory }

same_pages : (limit least : ℕ) (a b : List ℕ) → length b ≡ length a → HasPages limit least a → HasPages limit least b
same_pages limit least a b e k = record { count = k.count; whole = e ∙ k.whole; enough = k.enough; within = k.within }

rest_with : (m : Contents) (s : Stored) (bytes : List ℕ) → length bytes ≡ length s.memory → Rest m s → Rest m (with_memory bytes s)
rest_with m s bytes e k = record { table = k.table; elements = k.elements; limit = k.limit; memory = same_pages s.limit (minimum m.memory) s.memory bytes e k.memory }

pub with_memory_of : (m : Contents) (s : Stored) (bytes : List ℕ) → length bytes ≡ length s.memory → IsStoreOf m s → IsStoreOf m (with_memory bytes s)
with_memory_of m s bytes e k =
    record { globals = k.globals; table = k.table; elements = k.elements; limit = k.limit; memory = same_pages s.limit (minimum m.memory) s.memory bytes e k.memory }

more_pages : (limit least delta : ℕ) (bytes : List ℕ) → nat_le (pages bytes + delta) limit ≡ true → HasPages limit least bytes → HasPages limit least (bytes ++ replicate (delta * PAGE_SIZE) 0)
more_pages limit least delta bytes e k =
    let p : pages bytes ≡ k.count = ap (λ (n : ℕ). n / PAGE_SIZE) k.whole ∙ mul-div_cancel k.count (omega arith) in
    let h : pages bytes + delta ≤ limit = at_least (pages bytes + delta) limit e in
    let n : length (bytes ++ replicate (delta * PAGE_SIZE) 0) ≡ (k.count + delta) * PAGE_SIZE =
    length-append bytes (replicate (delta * PAGE_SIZE) 0) ∙ (omega (arith, length-replicate {A = ℕ} (delta * PAGE_SIZE) 0, k.whole)) in
    record { count = k.count + delta; whole = n; enough = omega (arith, k.enough); within = omega arith }

grown_pages : (limit least delta : ℕ) (bytes : List ℕ) → HasPages limit least bytes → HasPages limit least (grown limit delta bytes)
grown_pages limit least delta bytes k = by_test (nat_le (pages bytes + delta) limit) refl where
  by_test : (b : Bool) → nat_le (pages bytes + delta) limit ≡ b → HasPages limit least (if b then bytes ++ replicate (delta * PAGE_SIZE) 0 else bytes)
  by_test true e = more_pages limit least delta bytes e k
  by_test false e = k

written_length : (address : ℕ) (bytes memory after : List ℕ) → written_at address bytes memory ≡ Some after → length after ≡ length memory
written_length address bytes memory after e = by_test (nat_le (address + length bytes) (length memory)) refl e where
  by_test : (b : Bool) → nat_le (address + length bytes) (length memory) ≡ b
      → (if b then Some (take address memory ++ (bytes ++ drop (address + length bytes) memory)) else None) ≡ Some after → length after ≡ length memory
  by_test false t e = absurd (cc)
  by_test true t e =
      let q : take address memory ++ (bytes ++ drop (address + length bytes) memory) ≡ after = cc in
      let h : address + length bytes ≤ length memory = at_least (address + length bytes) (length memory) t in
      let a : address ≤ length memory = omega arith in
      ap (λ (bs : List ℕ). length bs) (sym q) ∙ length-append (take address memory) (bytes ++ drop (address + length bytes) memory)
      ∙ omega (arith, length-take-le address memory a, length-append bytes (drop (address + length bytes) memory), length-drop (address + length bytes) memory)

module _ (m : Contents) where
  -- an instruction leaves it
  rest_left : {s t : Stored} → StoreLeft s t → Rest m s → Rest m t
  rest_left same_store k = k
  rest_left (global_set x v) k = record { table = k.table; elements = k.elements; limit = k.limit; memory = k.memory }
  rest_left {s} (written address bytes memory e) k = rest_with m s memory (written_length address bytes s.memory memory e) k
  rest_left {s} (enlarged delta) k =
      record { table = k.table; elements = k.elements; limit = k.limit; memory = grown_pages s.limit (minimum m.memory) delta s.memory k.memory }

  -- what a step of typed contexts over a store of the module leads to
  abbrev pub Safe : (answers : List ValType) → Move → Type 0
  Safe answers (Goes charge s contexts) = IsStoreOf m s × Bounded m 128 answers contexts
  Safe answers (Traps trap) = Unit {0}
  Safe answers (Calls f args below) = (type : FuncType) × HasFunctionType m f type × (types_of args ≡ type.params) × AwaitsWithin m 128 answers below type
  Safe answers (Ends results) = types_of results ≡ pushed answers []
  Safe answers Stuck = ⊥

  is_safe : (answers : List ValType) (s : Stored) (move : Move) → Rest m s → LeavesStore s move → SoundWithin m 128 answers move → Safe answers move
  is_safe answers s (Goes charge t contexts) rest left ok =
      let k = rest_left left rest in (record { globals = ok.0; table = k.table; elements = k.elements; limit = k.limit; memory = k.memory }, ok.1)
  is_safe answers s (Traps trap) rest left ok = tt
  is_safe answers s _ rest left ok = ok

  pub safe : (answers : List ValType) (s : Stored) (contexts : List Context) → IsStoreOf m s → Bounded m 128 answers contexts → Safe answers (next m s contexts)
  safe answers s contexts fit typed = is_safe answers s (next m s contexts) (rest_of m s fit) (store_after m s contexts) (sound_within m 128 answers s contexts fit.globals typed)
