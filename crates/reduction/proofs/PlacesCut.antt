-- What the table tells of a branch is what the rules of branches do: to which place it goes, how many operands it takes
-- along, and on top of how many of the same call.
use Rattle.reduction.proofs.Words.{append_assoc, branched, Contents, continuing, height_of, I32, label_for, length-take-le, on_contexts, operands_of, slice_get}
use Rattle.reduction.proofs.Words.{arith, Body, BrTable, Context, Frame, Instr, IsPlaced, Label, length, min, Option, Place, plain, Store, Target, Tells, Value}
use Rattle.reduction.proofs.Words.{ap, Br, BrIf, Code, drop, Goes, List, next, Over, refl, Some, suc, sym, take, ℕ, [], ◌++◌, ◌+◌, ◌-◌, ◌∙◌, ◌∷◌, ◌≡◌, ◌≤◌}
use Rattle.reduction.proofs.Contexts.{height-parts, call-continuing, call-reached, locals-continuing, locals-reached}
use Rattle.reduction.proofs.Begins.{Begins, begins_with}
use Rattle.reduction.proofs.Begins as at_place
use Rattle.std.proofs.Math.Seq.{drop-append-add}
use Rattle.syntax.specs.declared.instruction.Token.TheVariants as op
use Rattle.reduction.specs.HeightsOfRuns.{all_operands}
use Rattle.reduction.specs.Places.{Cuts, BranchesTo}
use Rattle.reduction.proofs.PlacesKept.{listed, continues}
use Rattle.reduction.proofs.Rules.{Reaches, Lands, lands_at}
use Rattle.reduction.proofs.Rules as rule

-- the innermost context begins with an instruction that contains no other, of which the table tells
pub record AtPlain (m : Contents) (body : ℕ → Body) (place : Place) (callers : List Place) (i : Instr) (contexts : List Context) : Type 0 where
  pub labels : List Target
  pub after : ℕ
  pub behind : ℕ
  pub over : Over m body place.function callers labels after behind contexts
  pub rest : Code
  pub tells : Tells (body place.function).table labels place.pc i
  pub next_is : (s : Store) → next m s contexts ≡ plain m s i (operands_of contexts) rest contexts

module _ (m : Contents) (body : ℕ → Body) (place : Place) (callers : List Place) where
  operands_continuing : (labels : List Target) (after behind : ℕ) (contexts : List Context) (more : List Value) (code : Code)
      → Over m body place.function callers labels after behind contexts → all_operands (continuing more code contexts) ≡ more ++ all_operands contexts
  operands_continuing labels after behind [] more code h = absurd h
  operands_continuing labels after behind (Label arity next own rest ∷ below) more code h = append_assoc more own (all_operands below)
  operands_continuing labels after behind (Frame locals arity own rest ∷ below) more code h = append_assoc more own (all_operands below)

  -- what lies beneath the innermost context is also what lies beneath in all
  beneath : (own more : List Value) (height low : ℕ) → low ≤ height → drop (length own + height - low) (own ++ more) ≡ drop (height - low) more
  beneath own more height low h =
      let e : length own + height - low ≡ length own + (height - low) = omega (arith, h) in rw e (drop-append-add own more (height - low))

  -- what a branch keeps and drops, and where the calls then stand
  cuts_at : {label arity : ℕ} {next : Code} {contexts below : List Context} → Reaches label contexts arity next below → (labels : List Target) (after behind : ℕ)
      → Over m body place.function callers labels after behind contexts → (values : List Value) → arity ≤ length values
      → (t : Target) × (slice_get labels label ≡ Some t) × Cuts t values contexts (continuing (take arity values) next below)
      × IsPlaced m body (record { function = place.function; pc = t.pc }) callers (continuing (take arity values) next below) 0
  cuts_at rule.here [] after behind h values few = absurd h
  cuts_at (rule.further at) [] after behind h values few = absurd h
  cuts_at (rule.further {own} {above} at) (u ∷ labels) after behind (keep, height, later, end, h, k, n) values few =
      let r = cuts_at at labels later end h values few in
      let low : r.0.height ≤ height_of above = omega (arith, r.2.above, height-parts above) in
      (r.0, r.1, record { enough = r.2.enough; above = omega (arith, low); operands = rw (beneath own (all_operands above) (height_of above) r.0.height low) r.2.operands }, r.3)
  cuts_at (rule.here {arity} {next} {own} {below}) (u ∷ labels) after behind (keep, height, later, end, h, k, n) values few =
      let none : height_of below - u.height ≡ 0 = omega (arith, height) in
      let beneath_all : drop (length own + height_of below - u.height) (own ++ all_operands below) ≡ all_operands below =
      beneath own (all_operands below) (height_of below) u.height (omega (arith, height)) ∙ ap (λ (k : ℕ). drop k (all_operands below)) none in (
        u,
        refl,
        record {
          enough = omega (arith, keep, few);
          above = omega (arith, height);
          operands = rw (beneath_all, keep) (operands_continuing labels later end below (take arity values) next h);
        },
        continues m body (record { function = place.function; pc = u.pc }) callers labels later end arity below (take arity values) next h n (length-take-le arity values few),
      )

  -- a branch to a label whose target is told
  branch_told : (told : Option Target) (label : ℕ) (labels : List Target) (values : List Value) (after behind : ℕ) (s to : Store) (charge : ℕ) (contexts there : List Context)
      → told ≡ slice_get labels label → Over m body place.function callers labels after behind contexts
      → on_contexts s (branched label values contexts) ≡ Goes charge to there → BranchesTo m body place callers told values contexts there
  branch_told told label labels values after behind s to charge contexts there is h e = by (lands_at values label contexts) e where
    by : {o : Option (List Context)} → Lands values label contexts o → on_contexts s o ≡ Goes charge to there → BranchesTo m body place callers told values contexts there
    by rule.nowhere g = absurd (cc)
    by (rule.lands {arity} {next} {below} at few) g =
        let same : continuing (take arity values) next below ≡ there = cc in
        let r = cuts_at at labels after behind h values few in
        rw (sym same) (record {
          target = r.0;
          is_told = is ∙ r.1;
          cuts = r.2;
          placed = r.3;
          same_call = call-continuing (take arity values) next below ∙ sym (call-reached at);
          same_locals = locals-continuing (take arity values) next below ∙ sym (locals-reached at);
        })

  pub at_plain : (i : Instr) (contexts : List Context) → IsPlaced m body place callers contexts 0
      → slice_get (body place.function).operations place.pc ≡ Some (op.Plain i) → AtPlain m body place callers i contexts
  at_plain i contexts w e = by (begins_with m body place callers _ w e) w where
    by : {contexts : List Context} → Begins (Some (op.Plain i)) contexts → IsPlaced m body place callers contexts 0 → AtPlain m body place callers i contexts
    by (at_place.a_plain {rest}) w = record { labels = w.labels; after = w.after; behind = w.behind; over = w.over; rest = rest; tells = w.code.1; next_is = λ s. refl }

  -- a branch goes where its operation's target says
  pub br : (label charge : ℕ) (s to : Store) (contexts there : List Context) → IsPlaced m body place callers contexts 0
      → slice_get (body place.function).operations place.pc ≡ Some (op.Plain (Br label)) → next m s contexts ≡ Goes charge to there
      → BranchesTo m body place callers (slice_get (body place.function).table.targets place.pc) (operands_of contexts) contexts there
  br label charge s to contexts there w o e =
      let p = at_plain (Br label) contexts w o in
      branch_told (slice_get (body place.function).table.targets place.pc) label p.labels (operands_of contexts) p.after p.behind s to charge contexts there p.tells p.over
      (sym (p.next_is s) ∙ e)

  -- so does one that is taken where its operand isn't 0
  pub br_if : (label charge n : ℕ) (values : List Value) (s to : Store) (contexts there : List Context) → IsPlaced m body place callers contexts 0
      → slice_get (body place.function).operations place.pc ≡ Some (op.Plain (BrIf label)) → operands_of contexts ≡ I32 (suc n) ∷ values → next m s contexts ≡ Goes charge to there
      → BranchesTo m body place callers (slice_get (body place.function).table.targets place.pc) values contexts there
  br_if label charge n values s to contexts there w o top e =
      let p = at_plain (BrIf label) contexts w o in
      let is : next m s contexts ≡ on_contexts s (branched label values contexts) = p.next_is s ∙ ap (λ (vs : List Value). plain m s (BrIf label) vs p.rest contexts) top in
      branch_told (slice_get (body place.function).table.targets place.pc) label p.labels values p.after p.behind s to charge contexts there p.tells p.over (sym is ∙ e)

  -- a branch through a table of labels goes where its label's target says, the last one past the end
  pub br_table : (ls : List ℕ) (default charge n : ℕ) (values : List Value) (s to : Store) (contexts there : List Context) → IsPlaced m body place callers contexts 0
      → slice_get (body place.function).operations place.pc ≡ Some (op.Plain (BrTable ls default)) → operands_of contexts ≡ I32 n ∷ values → next m s contexts ≡ Goes charge to there
      → (start : Target) × (slice_get (body place.function).table.targets place.pc ≡ Some start)
      × BranchesTo m body place callers (slice_get (body place.function).table.chosen (start.pc + min n (length ls))) values contexts there
  br_table ls default charge n values s to contexts there w o top e =
      let p = at_plain (BrTable ls default) contexts w o in
      let is : next m s contexts ≡ on_contexts s (branched (label_for (slice_get ls n) default) values contexts) =
      p.next_is s ∙ ap (λ (vs : List Value). plain m s (BrTable ls default) vs p.rest contexts) top in
      let start = p.tells.0 in (
        start,
        p.tells.1,
        branch_told (slice_get (body place.function).table.chosen (start.pc + min n (length ls))) (label_for (slice_get ls n) default) p.labels values p.after p.behind s to charge contexts there
            (listed (body place.function).table.chosen p.labels ls start.pc default n p.tells.3) p.over (sym is ∙ e),
      )
