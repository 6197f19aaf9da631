-- The modules and the loops of a script, one more at a time.
use Rattle.std.proofs.Common.{◌≡◌, ℕ, ◌+◌, ◌<◌, List, [], ◌∷◌, ◌++◌, length, map, take, All, Some, refl, sym, ap, ◌∙◌, add-one}
use Rattle.std.specs.Prelude.{slice_get}
use Rattle.std.specs.Option.{option_map}
use Rattle.std.proofs.Math.ListN.{get_or}
use Rattle.std.proofs.Math.Seq.{take-suc}
use Rattle.std.proofs.lemmas.List.{map-append, length-map}
use Rattle.std.proofs.lemmas.List.Elements.{All-append, All-cons, All-nil}
use Rattle.std.proofs.lemmas.Option.{get_or_from_slice_get, slice_get_read, slice_get-map}
use Rattle.syntax.specs.Loaded.{Loaded}
use Rattle.script.specs.declared.plan.LoopPlan.{LoopPlan}
use Rattle.world.specs.declared.config.LoopConfig.{LoopConfig}
use Rattle.world.specs.Making.{setting_from, settings_from}
use Rattle.scripting.specs.Opening.{IsAcceptedModule, bytes_loaded, IsPlanned, ArePlanned}

-- the front of a list, and one more
taken : {A : Type 0} (xs : List A) (k : ℕ) (x : A) → slice_get xs k ≡ Some x → k < length xs → take (k + 1) xs ≡ take k xs ++ x ∷ []
taken {A} xs k x at inside =
    ap (λ (n : ℕ). take n xs) (add-one k) ∙ take-suc xs k x inside ∙ ap (λ (y : A). take k xs ++ y ∷ []) (get_or_from_slice_get xs k x x at)

-- what all of a list are, and one more
pub all_more : {A : Type 0} (P : A → Type 0) (old new : List A) (x : A) → new ≡ old ++ x ∷ [] → All P old → P x → All P new
all_more P old new x is all one = rw is (All-append P old (x ∷ []) all (All-cons P x [] one (All-nil P)))

-- one more module, of the next text
pub module_added : {T A : Type 0} (f : T → List ℕ) (g : A → Loaded) (texts : List T) (k : ℕ) (t : T) (old new : List A) (m : A)
    → k < length texts → t ≡ get_or texts k t → new ≡ old ++ m ∷ [] → bytes_loaded (g m) ≡ f t → IsAcceptedModule (g m)
    → map bytes_loaded (map g old) ≡ take k (map f texts) → All IsAcceptedModule (map g old)
    → (map bytes_loaded (map g new) ≡ take (k + 1) (map f texts)) × All IsAcceptedModule (map g new)
module_added f g texts k t old new m inside is_next is_new same good before all =
    let at : slice_get (map f texts) k ≡ Some (f t) = slice_get-map f texts k ∙ ap (option_map f) (slice_get_read texts (length texts) k t refl inside is_next) in
    let mapped : map g new ≡ map g old ++ g m ∷ [] = ap (map g) is_new ∙ map-append g old (m ∷ []) in
    let bytes : map bytes_loaded (map g new) ≡ take k (map f texts) ++ f t ∷ [] = rw (mapped, map-append bytes_loaded (map g old) (g m ∷ []), before, same) refl in (
      bytes ∙ sym (taken (map f texts) k (f t) at (rw (length-map texts f) inside)),
      rw mapped (All-append IsAcceptedModule (map g old) (g m ∷ []) all (All-cons IsAcceptedModule (g m) [] good (All-nil IsAcceptedModule))),
    )

-- one more loop, planned next
loops_added : (ms : List Loaded) (n : ℕ) (ps : List LoopPlan) (cs : List LoopConfig) (p : LoopPlan) (c : LoopConfig)
    → ((l : ℕ) → IsPlanned ms l p (setting_from l c)) → ArePlanned ms n ps (settings_from n cs)
    → ArePlanned ms n (ps ++ p ∷ []) (settings_from n (cs ++ c ∷ []))
loops_added ms n [] [] p c one all = (one n, tt)
loops_added ms n [] (d ∷ cs) p c one all = absurd all
loops_added ms n (q ∷ ps) [] p c one all = absurd all
loops_added ms n (q ∷ ps) (d ∷ cs) p c one all = (all.0, loops_added ms (n + 1) ps cs p c one all.1)

pub loop_added : (ms : List Loaded) (planned : List LoopPlan) (k : ℕ) (p : LoopPlan) (old new : List LoopConfig) (c : LoopConfig)
    → k < length planned → slice_get planned k ≡ Some p → ((l : ℕ) → IsPlanned ms l p (setting_from l c)) → new ≡ old ++ c ∷ []
    → ArePlanned ms 0 (take k planned) (settings_from 0 old) → ArePlanned ms 0 (take (k + 1) planned) (settings_from 0 new)
loop_added ms planned k p old new c inside at one is_new before =
    rw (taken planned k p at inside, is_new) (loops_added ms 0 (take k planned) old p c one before)
