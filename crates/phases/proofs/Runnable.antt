-- What a loop has outstanding are orders of the loop, which can be run.
use Rattle.phases.proofs.Words.{Bool, bytes_eq-Decides, ExportsFunction, get_or_from_slice_get, is_open_stage, next_order_of, slice_get_within, without_request}
use Rattle.phases.proofs.Words.{All, All-weaker, AreOrdersOf, has_number, is_settled, IsSettledIn, lowest_open, MatchOption, request_of, steps_keep, with_stage}
use Rattle.phases.proofs.Words.{Cancelled, CanRun, GuestCall, HandedOut, IsOrderOf, MAX_BYTES, MAX_DEPTH, next_work, slice_get, taken_out, with_work, WorkOrder}
use Rattle.phases.proofs.Words.{All-head, All-tail, bytes_eq, CallStep, Contents, exports, handing, HostCall, HostStep, in_stage, IsLinked, list_any, Requests}
use Rattle.phases.proofs.Words.{arith, Calls, codes, Failed, false, Lawful, length, next_in, Option, Request, Running, Setting, Stage, State, Status, subst, []}
use Rattle.phases.proofs.Words.{Call, cond, drop, find, List, None, not, Open, Over, refl, Some, suc, sym, take, true, ℕ, ◌&&◌, ◌||◌, ◌∷◌, ◌≡◌, ◌≤◌}
use Rattle.std.proofs.Common.{min}
use Rattle.std.proofs.lemmas.Bool.{ltb-false}
use Rattle.std.proofs.lemmas.List.{length-take}
use Rattle.std.proofs.lemmas.List.Elements.{All-append, All-map, All-get_or, All-cons, All-filter}
use Rattle.syntax.specs.declared.contents.ModuleExport.{ModuleExport}
use Rattle.imports.specs.declared.entry_point.EntryPoint.TheVariants.{Work}
use Rattle.imports.specs.Linking.{IsCallable}
use Rattle.phases.proofs.CallMoves.{CallMoves, leaves_all, opens, cancels_won, MayOpen, call_moves}
use Rattle.phases.proofs.CancelFates.{CancelFate, cancelled, stayed}

-- what stands among a module's exports under the name of its work function is that function
at_name : (es : List ModuleExport) (name : List ℕ) → list_any (λ e. bytes_eq e.name name) es ≡ true
    → (at : ℕ) × (e : ModuleExport) × (slice_get es at ≡ Some e) × (name ≡ e.name)
at_name [] name h = absurd (cc)
at_name (e ∷ es) name h = chosen (bytes_eq e.name name) refl (at_name es name) where
  Found : List ModuleExport → Type 0
  Found xs = (at : ℕ) × (x : ModuleExport) × (slice_get xs at ≡ Some x) × (name ≡ x.name)

  chosen : (b : Bool) → bytes_eq e.name name ≡ b → (list_any (λ x. bytes_eq x.name name) es ≡ true → Found es) → Found (e ∷ es)
  chosen true is later = (0, e, refl, sym ((bytes_eq-Decides e.name name).0 is))
  chosen false is later = let rest = later (subst (λ b. (b || list_any (λ x. bytes_eq x.name name) es) ≡ true) is h) in (suc rest.0, rest.1, rest.2, rest.3)

exports_work : (m : Contents) → IsLinked m → exports m (codes "uv_work") ≡ true → (f : ℕ) × ExportsFunction m (codes "uv_work") f
exports_work m linked h =
    let it = at_name m.exports (codes "uv_work") h in
    let callable : IsCallable m it.1 = subst (IsCallable m) (get_or_from_slice_get m.exports it.0 it.1 it.1 it.2)
    (All-get_or (IsCallable m) m.exports it.0 it.1 (slice_get_within m.exports it.0 it.1 it.2) linked.exports) in
    (it.1.index, (it.0, it.1, it.2, it.3, (callable Work it.3).0, refl))

-- an order that is handed out leaves the last number
pub next_last : (s : State) (P : ℕ → Type 0) → P s.requests.last → P (next_order_of s).1.requests.last
next_last s P h = by_status s.status where
  handed : (o : Option Request) → P (handing s.requests o).1.last
  handed None = h
  handed (Some r) = h

  by_status : (status : Status) → P (next_in status s).1.requests.last
  by_status Failed = h
  by_status Running = handed (lowest_open s.requests)
  by_status Over = handed (lowest_open s.requests)

-- the orders stay those of the loop, however far the requests come
module _ (g : Setting) where
  staged : (number : ℕ) (stage : Stage) (r : Request) → IsOrderOf g r.order → IsOrderOf g (in_stage number stage r).order
  staged number stage r h =
      elim (has_number number r) as (λ b. IsOrderOf g (cond b (record r { stage = stage }) r).order) [ true ↦ h | false ↦ h ]

  pub staged_orders : (rs : Requests) (number : ℕ) (stage : Stage) → AreOrdersOf g rs → AreOrdersOf g (with_stage rs number stage)
  staged_orders rs number stage h =
      All-map (λ (r : Request). IsOrderOf g r.order) (in_stage number stage) rs.outstanding
      (All-weaker (λ (r : Request). IsOrderOf g r.order) (λ (r : Request). IsOrderOf g (in_stage number stage r).order) (staged number stage) rs.outstanding h)

  pub other_orders : (rs : Requests) (number : ℕ) → AreOrdersOf g rs → AreOrdersOf g (without_request rs number)
  other_orders rs number h = All-filter (λ r. not (has_number number r)) (λ (r : Request). IsOrderOf g r.order) rs.outstanding h

  pub cancelled_orders : (rs us : Requests) (number answer : ℕ) → CancelFate rs number answer us → AreOrdersOf g rs → AreOrdersOf g us
  cancelled_orders rs us number answer (cancelled q found won e) h = subst (AreOrdersOf g) (sym e) (staged_orders rs number Cancelled h)
  cancelled_orders rs us number answer (stayed refused e) h = subst (AreOrdersOf g) (sym e) h

  pub next_orders : (s : State) → AreOrdersOf g s.requests → AreOrdersOf g (next_order_of s).1.requests
  next_orders s h = by_status s.status where
    handed : (o : Option Request) → AreOrdersOf g (handing s.requests o).1
    handed None = h
    handed (Some r) = staged_orders s.requests r.order.request HandedOut h

    by_status : (status : Status) → AreOrdersOf g (next_in status s).1.requests
    by_status Failed = h
    by_status Running = handed (lowest_open s.requests)
    by_status Over = handed (lowest_open s.requests)

  -- one that is found among them
  pub found_order : (p : Request → Bool) (xs : List Request) (r : Request) → find p xs ≡ Some r → All (λ (x : Request). IsOrderOf g x.order) xs → IsOrderOf g r.order
  found_order p [] r e k = absurd (cc)
  found_order p (x ∷ xs) r e k = picked (p x) e (λ later. found_order p xs r later (All-tail (λ (y : Request). IsOrderOf g y.order) x xs k)) where
    picked : (b : Bool) → cond b (Some x) (find p xs) ≡ Some r → (find p xs ≡ Some r → IsOrderOf g r.order) → IsOrderOf g r.order
    picked true same rest = let one : x ≡ r = cc in subst (λ (y : Request). IsOrderOf g y.order) one (All-head (λ (y : Request). IsOrderOf g y.order) x xs k)
    picked false later rest = rest later

  pub request_heard : (rs : Requests) (number : ℕ) → IsSettledIn rs number → AreOrdersOf g rs → exports g.loaded.contents (codes "uv_after_work") ≡ true
  request_heard rs number settled h = of_option (request_of rs number) refl settled where
    of_option : (o : Option Request) → request_of rs number ≡ o → MatchOption o ⊥ (λ r. is_settled r.stage ≡ true) → exports g.loaded.contents (codes "uv_after_work") ≡ true
    of_option None e k = absurd k
    of_option (Some r) e k = (found_order (has_number number) rs.outstanding r e h).heard

  -- what is handed out is one of them
  pub handed_order : (s : State) (o : WorkOrder) → (next_order_of s).0 ≡ Some o → AreOrdersOf g s.requests → IsOrderOf g o
  handed_order s o is h = by_status s.status is where
    of_handing : (u : Option Request) → lowest_open s.requests ≡ u → (handing s.requests u).0 ≡ Some o → IsOrderOf g o
    of_handing None e k = absurd (cc)
    of_handing (Some r) e k = let same : r.order ≡ o = cc in subst (IsOrderOf g) same (found_order (λ x. is_open_stage x.stage) s.requests.outstanding r e h)

    by_status : (status : Status) → (next_in status s).0 ≡ Some o → IsOrderOf g o
    by_status Failed k = absurd (cc)
    by_status Running k = of_handing (lowest_open s.requests) refl k
    by_status Over k = of_handing (lowest_open s.requests) refl k

-- the orders of a linked module can be run
module _ (g : Setting) (linked : IsLinked g.loaded.contents) (depth : (1 ≤ g.depth) × (g.depth ≤ MAX_DEPTH)) where
  second_of : (a b : Bool) → (a && b) ≡ true → b ≡ true
  second_of true b e = e
  second_of false b e = absurd (cc)

  first_of : (a b : Bool) → (a && b) ≡ true → a ≡ true
  first_of true b e = refl
  first_of false b e = absurd (cc)

  opened_runs : (rs : Requests) (slot op place count : ℕ) (memory : List ℕ) → MayOpen g slot count
      → AreOrdersOf g rs → AreOrdersOf g (with_work rs (next_work g rs slot op (taken_out place count memory)))
  opened_runs rs slot op place count memory may h =
      let within : count ≤ MAX_BYTES = ltb-false MAX_BYTES count may.few in
      let front : length (take count (drop place memory)) ≡ min count (length (drop place memory)) = length-take count (drop place memory) in
      let runs : CanRun (next_work g rs slot op (taken_out place count memory)) = record {
        work = exports_work g.loaded.contents linked (first_of (exports g.loaded.contents (codes "uv_work")) (exports g.loaded.contents (codes "uv_after_work")) may.exported);
        bytes = omega arith;
        depth = depth;
      } in
      let one : IsOrderOf g (next_work g rs slot op (taken_out place count memory)) = record {
        loop_no = refl;
        slot = may.below;
        runs = runs;
        heard = second_of (exports g.loaded.contents (codes "uv_work")) (exports g.loaded.contents (codes "uv_after_work")) may.exported;
      } in
      All-append (λ (r : Request). IsOrderOf g r.order) rs.outstanding (record { order = next_work g rs slot op (taken_out place count memory); stage = Open } ∷ []) h
      (All-cons (λ (r : Request). IsOrderOf g r.order) _ [] one (λ i d h. absurd (omega arith)))

  module _ {S : Type 0} (calls : Calls S) where
    moved_orders : (old new : Requests × S) (c : GuestCall) → CallMoves calls g old c new → AreOrdersOf g old.0 → AreOrdersOf g new.0
    moved_orders old new c (leaves_all asks never e beside) h = subst (AreOrdersOf g) (sym e) h
    moved_orders old new c (opens op place count slot may is args told e at) h =
        subst (AreOrdersOf g) (sym e) (opened_runs old.0 slot op place count c.call.before may h)
    moved_orders old new c (cancels_won n q is args told found e at) h = subst (AreOrdersOf g) (sym e) (staged_orders g old.0 n Cancelled h)

    pub call_orders : (old : State × S) (call : HostCall) (new : State × S) (f : Call) → CallStep calls g old call new f call.args → AreOrdersOf g old.0.requests → AreOrdersOf g new.0.requests
    call_orders old call new f h =
        moved_orders (old.0.requests, old.1) (new.0.requests, new.1) (record { function = f; call = call }) (call_moves calls g old call new f h)

    pub orders_run : (trace : List HostCall) (old new : State × S) → Lawful (HostStep calls g) trace old new → AreOrdersOf g old.0.requests → AreOrdersOf g new.0.requests
    orders_run = steps_keep (HostStep calls g) (λ trace x. AreOrdersOf g x.0.requests) (λ call trace old new h. call_orders old call new h.0 h.2) []
