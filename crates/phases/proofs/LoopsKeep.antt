-- What a loop keeps as a callback runs, and as entries are taken off its list.
use Rattle.phases.proofs.Words.{ap, AreOpenedUpTo, AreOrdersOf, AreReady, arith, begin_list, begun, Bool, callback_function, callback_in, callbacks_of, calling}
use Rattle.phases.proofs.Words.{Calls, CancelIn, codes, Completion, completion_of, cond, Contents, drop, Ended, EntryKind, exports, ExportsFunction}
use Rattle.phases.proofs.Words.{ExportsNothing, false, finished, first_list, Grows, GuestCall, Failed, Halt, handle_function, HasNoResults, HostStep, I32, IfNone, IfSome}
use Rattle.phases.proofs.Words.{import_types, in_table, inl, inr, is_alive, is_some, IsLawful, IsLinked, IsOrderOf, IsStoreOf, KeepsLoop, Lawful, Leads, List}
use Rattle.phases.proofs.Words.{Loaded, Loop, map, MatchOption, MAX_DEPTH, may_end, Names, next_in, next_of, next_order_of, None, not, opening, opening_roster}
use Rattle.phases.proofs.Words.{Option, option_and_then, option_map, option_map_or, Order, order_of, Over, Ran, Record, record_of, refl, Request, RequestIn, Requests}
use Rattle.phases.proofs.Words.{Roster, Running, RunsFrom, scene, Setting, slice_get, Some, State, Status, Store, subst, sym, TakesArguments, true, turn}
use Rattle.phases.proofs.Words.{ValidModule, ValType, Value, with_requests, ℕ, [], ◌&&◌, ◌∙◌, ◌∷◌, ◌≡◌, ◌≤◌, ◌⊎◌}
use Rattle.std.proofs.Common.{Result, Ok, Err, OnOk, IfErr}
use Rattle.std.proofs.lemmas.Option.{slice_get-map}
use Rattle.syntax.specs.declared.contents.FuncType.{FuncType}
use Rattle.syntax.specs.declared.types.ValType.TheVariants as valtype
use Rattle.valid.specs.Typing.{type_of_function, type_of, HasFunctionType}
use Rattle.handles.specs.Table.{empty_table}
use Rattle.events.specs.declared.ended.Ending.{Ending}
use Rattle.events.specs.declared.ended.Ending.TheVariants as ending
use Rattle.reduction.specs.Stopping.{StopsAt}
use Rattle.phases.specs.Outside.{is_failed}
use Rattle.phases.specs.Step.{returns}
use Rattle.instance.specs.Fresh.{fresh_store}
use Rattle.order.proofs.FunctionTypes.{has_type}
use Rattle.phases.specs.Host.{Cancels}
use Rattle.phases.specs.Hosting.{Answered}
use Rattle.phases.specs.Roster.{takes_one_number}
use Rattle.phases.proofs.GuestCallsKeepListed.{grows_on, trace_grows, trace_status}
use Rattle.phases.proofs.PhaseListsAreReady.{ready_opening}
use Rattle.phases.proofs.HostExports.{found_exports}
use Rattle.phases.proofs.CancelFates.{moves_in, fate_in}
use Rattle.phases.proofs.GuestCallsKeep.{served, named, moved_upto}
use Rattle.phases.proofs.OwnerCallsKeepListed.{grows_begun, grows_finished}
use Rattle.phases.proofs.ListedStaysReady.{ready_on}
use Rattle.phases.proofs.Runnable.{orders_run, cancelled_orders, handed_order}

-- as the state grows
pub kept_on : (l : Loaded) (g : Setting) (s u : State) (t : Store) → KeepsLoop l g s t → Grows s u → AreOrdersOf g u.requests → KeepsLoop l g u t
kept_on l g s u t keeps grows orders = record {
  same = keeps.same;
  depth = keeps.depth;
  store = keeps.store;
  callbacks = grows.callbacks ∙ keeps.callbacks;
  ready = ready_on g.loaded.contents s u grows keeps.ready;
  orders = orders;
}

-- requests that stay fit what is shared as before
pub still_upto : {S : Type 0} (calls : Calls S) (shared : S) (old new : State) → new ≡ old → AreOpenedUpTo old.requests.last (calls.view shared)
    → AreOpenedUpTo new.requests.last (calls.view shared)
still_upto calls shared old new same upto = rw same upto

-- a loop that goes on as before has not failed where it had not
pub still_unfailed : (stop : Option Halt) (s u : Status) → u ≡ s → IfNone stop (is_failed s ≡ false) → IfNone stop (is_failed u ≡ false)
still_unfailed stop s u same h = rw same h

-- with another list
pub kept_with : (l : Loaded) (g : Setting) (s u : State) (t : Store) → KeepsLoop l g s t → u.roster.callbacks ≡ s.roster.callbacks → AreReady g.loaded.contents u → AreOrdersOf g u.requests → KeepsLoop l g u t
kept_with l g s u t keeps callbacks ready orders = record {
  same = keeps.same;
  depth = keeps.depth;
  store = keeps.store;
  callbacks = callbacks ∙ keeps.callbacks;
  ready = ready;
  orders = orders;
}

-- a turn leaves handles and requests
pub turn_leaves : (s : State) → ((turn s).1.roster ≡ s.roster) × ((turn s).1.requests ≡ s.requests)
turn_leaves s = by_end (may_end s.phase && not (is_alive s)) refl where
  by_end : (b : Bool) → (may_end s.phase && not (is_alive s)) ≡ b → ((turn s).1.roster ≡ s.roster) × ((turn s).1.requests ≡ s.requests)
  by_end true e = rw e (refl, refl)
  by_end false e = rw e (refl, refl)

-- nor does it fail
pub turn_unfailed : (stop : Option Halt) (s : State) → IfNone stop (is_failed s.status ≡ false) → IfNone stop (is_failed (turn s).1.status ≡ false)
turn_unfailed stop s h = by_end (may_end s.phase && not (is_alive s)) refl where
  over : (o : Option Halt) → IfNone o (is_failed Over ≡ false)
  over None = refl
  over (Some halt) = tt

  by_end : (b : Bool) → (may_end s.phase && not (is_alive s)) ≡ b → IfNone stop (is_failed (turn s).1.status ≡ false)
  by_end true e = rw e (over stop)
  by_end false e = rw e h

-- the front of a list
pub front_of : {X : Type 0} (xs : List X) (x : X) → slice_get xs 0 ≡ Some x → xs ≡ x ∷ drop 1 xs
front_of [] x h = absurd (cc)
front_of (y ∷ ys) x h = let same : y ≡ x = cc in ap (λ z. z ∷ ys) same

pub no_front : {X : Type 0} (xs : List X) → slice_get xs 0 ≡ None → xs ≡ []
no_front [] h = refl
no_front (y ∷ ys) h = absurd (cc)

-- the types of a module's imports
pub names_of : (v d l h : Loaded) → v ≡ d → d ≡ l → l ≡ h → Names d.contents (import_types d.contents) → Names v.contents (import_types h.contents)
names_of v d l h a b e n =
    rw (a, sym (b ∙ e)) n

-- a function of this type takes these arguments
pub takes : (m : Contents) (f : ℕ) (type : FuncType) (args : List Value) → type_of_function m f ≡ Some type → map type_of args ≡ type.params → TakesArguments m f args
takes m f type args h fit = record { type = type; known = has_type m f type h; fit = fit }

-- a function has one type, so where that has no results it has none
bare_of : (m : Contents) (f : ℕ) (type : FuncType) → HasFunctionType m f type → type.results ≡ [] → HasNoResults m f
bare_of m f type has none = record { none = one } where
  one : (other : FuncType) → HasFunctionType m f other → other.results ≡ []
  one other also =
      let this : type_of_function m f ≡ Some type = rw (has.1, has.2) refl in
      let that : type_of_function m f ≡ Some other = rw (also.1, also.2) refl in
      let both : Some other ≡ Some type = sym that ∙ this in
      let same : other ≡ type = cc in
      ap (λ (t : FuncType). t.results) same ∙ none

pub gives_nothing : (m : Contents) (f : ℕ) (type : FuncType) → type_of_function m f ≡ Some type → type.results ≡ [] → HasNoResults m f
gives_nothing m f type h none = bare_of m f type (has_type m f type h) none

-- nor has the start function
pub start_bare : (m : Contents) (f : ℕ) → m.start ≡ Some f → ValidModule m → HasNoResults m f
start_bare m f is valid = of_start m.start is valid.start where
  of_start : (o : Option ℕ) → o ≡ Some f → IfSome o (λ g. HasFunctionType m g (record { params = []; results = [] })) → HasNoResults m f
  of_start None e h = absurd (cc)
  of_start (Some g) e h =
      let same : g ≡ f = cc in
      bare_of m f (record { params = []; results = [] }) (rw same at h) refl

-- a callback takes the number of its handle, and has no results
module _ (m : Contents) (f n : ℕ) where
  abbrev Fits : Type 0
  Fits = TakesArguments m f (I32 n ∷ []) × HasNoResults m f

  by_types : (params results : List ValType) → takes_one_number params results ≡ true → (params ≡ valtype.I32 ∷ []) × (results ≡ [])
  by_types (valtype.I32 ∷ []) [] h = (refl, refl)
  by_types _ _ h = absurd (cc)

  typed : (o : Option FuncType) (k : ℕ) → type_of_function m k ≡ o → (cond (option_map_or (λ t. takes_one_number t.params t.results) o false) (Some k) None) ≡ Some f → Fits
  typed None k e h = absurd (cc)
  typed (Some t) k e h = chosen (takes_one_number t.params t.results) refl h where
    chosen : (b : Bool) → takes_one_number t.params t.results ≡ b → (cond b (Some k) None) ≡ Some f → Fits
    chosen false is found = absurd (cc)
    chosen true is found =
        let same : k ≡ f = cc in
        let known = rw same at e in
        let types = by_types t.params t.results is in
        (takes m f t (I32 n ∷ []) known (sym types.0), gives_nothing m f t known types.1)

  of_element : (o : Option ℕ) → callback_in m o ≡ Some f → Fits
  of_element None h = absurd (cc)
  of_element (Some k) h = typed (type_of_function m k) k refl h

  of_found : (o : Option (Option ℕ)) → in_table (option_map (callback_in m) o) ≡ Some f → Fits
  of_found None h = absurd (cc)
  of_found (Some element) h = of_element element h

  of_callback : (at : ℕ) → callback_function (callbacks_of m) at ≡ Some f → Fits
  of_callback at h = of_found (slice_get (fresh_store m).table at) (rw (slice_get-map (callback_in m) (fresh_store m).table at) at h)

  handle_fits : (r : Roster) (handle : ℕ) → r.callbacks ≡ callbacks_of m → handle_function r handle ≡ Some f → Fits
  handle_fits r handle same h = of_record (record_of r.handles handle) h where
    of_record : (o : Option Record) → option_and_then (λ it. callback_function r.callbacks it.callback) o ≡ Some f → Fits
    of_record None k = absurd (cc)
    of_record (Some it) k = of_callback it.callback (rw same at k)

  pub handle_takes : (r : Roster) (handle : ℕ) → r.callbacks ≡ callbacks_of m → handle_function r handle ≡ Some f → TakesArguments m f (I32 n ∷ [])
  handle_takes r handle same h = (handle_fits r handle same h).0

  pub handle_bare : (r : Roster) (handle : ℕ) → r.callbacks ≡ callbacks_of m → handle_function r handle ≡ Some f → HasNoResults m f
  handle_bare r handle same h = (handle_fits r handle same h).1

-- a callback that ran on the host of a loop
module _ {G S : Type 0} (calls : Calls S) (setting : G → Setting) (standing : G → State × S) (l : Loaded) (g : Setting) (old : Loop S)
    (keeps : KeepsLoop l g old.state old.store) (before after : G) (made : setting before ≡ g) (reply : Option (List ℕ))
    (begins : standing before ≡ (begun old.state reply, old.shared)) (t : Store) (function : ℕ) (args : List Value) (ended : Ended)
    (stop : Option Halt) (h : Leads (Answered calls setting standing) (calling l.contents function args g.fuel g.depth) (scene old.store before) ended stop (scene t after)) where
  answered : Lawful (HostStep calls g) h.asked (begun old.state reply, old.shared) (standing after)
  answered =
      let it = served calls setting standing h.asked before after h.answered in
      rw (made, begins) at it.answers

  pub same_setting : setting after ≡ g
  same_setting = (served calls setting standing h.asked before after h.answered).same ∙ made

  pub runs_from : (kind : EntryKind) (number : ℕ) (last : State) → last ≡ finished (standing after).0 ended
      → (made : List GuestCall) × RunsFrom calls g old kind number function args reply (Ran kind number ended) made (record { state = last; store = t; shared = (standing after).1 })
  runs_from kind number last e =
      let it = named calls g h.asked (begun old.state reply, old.shared) (standing after) answered in (
        it.0,
        record {
          ended = ended;
          state = (standing after).0;
          run = rw (it.1, sym keeps.same) h.ran;
          answers = it.2;
          told = refl;
          finished = e;
        },
      )

  -- where it stopped nowhere, a loop that went on goes on
  module _ (unfailed : is_failed old.state.status ≡ false) where
    goes_on : is_failed (standing after).0.status ≡ false
    goes_on = ap is_failed (trace_status calls g h.asked (begun old.state reply, old.shared) (standing after) answered) ∙ unfailed

    by_ending : (end : Ending) → StopsAt l.contents g.depth old.store function args h.asked end ended.used t stop
        → IfNone stop (is_failed (cond (returns end) (standing after).0.status Failed) ≡ false)
    by_ending (ending.Return values) none = rw none goes_on
    by_ending (ending.Trap trap) one = rw one.told tt
    by_ending ending.Depth one = rw one.told tt
    by_ending ending.Spent one = rw one.told tt

    pub unfailed_after : (last : State) → last ≡ finished (standing after).0 ended → IfNone stop (is_failed last.status ≡ false)
    unfailed_after last e = rw e (by_ending ended.ending h.stopped)

  pub kept_after : IsLinked l.contents → IsStoreOf l.contents t → (last : State) → last ≡ finished (standing after).0 ended → KeepsLoop l (setting after) last t
  kept_after linked fits last e =
      let u : State = (standing after).0 in
      let grows : Grows old.state (finished u ended) = grows_on old.state (begun old.state reply) (finished u ended) (grows_begun old.state reply)
      (grows_on (begun old.state reply) u (finished u ended) (trace_grows calls g h.asked (begun old.state reply, old.shared) (standing after) answered) (grows_finished u ended)) in
      let orders : AreOrdersOf g u.requests =
      orders_run g (rw keeps.same at linked) keeps.depth calls h.asked (begun old.state reply, old.shared) (standing after) answered keeps.orders in
      let there : KeepsLoop l g (finished u ended) old.store = kept_on l g old.state (finished u ended) old.store keeps grows orders in
      rw (same_setting, e) (record {
        same = there.same;
        depth = there.depth;
        store = rw keeps.same at fits;
        callbacks = there.callbacks;
        ready = there.ready;
        orders = there.orders;
      })

-- a reply that is taken, or is not
pub by_reply : {T E : Type 0} (P : State → Type 0) (X Y : E → Type 0) (r : Result T E) (a s u : State) → P a → P s → OnOk r (u ≡ a) → IfErr r (λ e. X e × (u ≡ s) × Y e) → P u
by_reply P X Y (Ok x) a s u pa ps ok err = subst P (sym ok) pa
by_reply P X Y (Err e) a s u pa ps ok err = subst P (sym err.1) ps

-- the owner's cancel
module _ {S : Type 0} (calls : Calls S) (lawful : IsLawful calls) where
  pub cancel_upto : (status : Status) (old new : State × S) (number answer : ℕ) → CancelIn calls status old number answer new
      → AreOpenedUpTo old.0.requests.last (calls.view old.1) → AreOpenedUpTo new.0.requests.last (calls.view new.1)
  cancel_upto status old new number answer h =
      moved_upto calls lawful (old.0.requests, old.1) (new.0.requests, new.1) number answer (moves_in calls status old number answer new h)

pub cancel_orders : {S : Type 0} (calls : Calls S) (g : Setting) (status : Status) (old new : State × S) (number answer : ℕ) → CancelIn calls status old number answer new
    → AreOrdersOf g old.0.requests → AreOrdersOf g new.0.requests
cancel_orders calls g status old new number answer h =
    cancelled_orders g old.0.requests new.0.requests number answer (fate_in calls status old number answer new h)

-- whether a loop goes on is no matter of its owner's
pub next_status : (s : State) → (next_order_of s).1.status ≡ s.status
next_status s = by_status s.status where
  by_status : (status : Status) → (next_in status s).1.status ≡ s.status
  by_status Failed = refl
  by_status Running = refl
  by_status Over = refl

pub cancel_status : {S : Type 0} (calls : Calls S) (status : Status) (old new : State × S) (number answer : ℕ) → CancelIn calls status old number answer new
    → new.0.status ≡ old.0.status
cancel_status calls Failed old new number answer h = ap (λ p. p.0.status) h.1
cancel_status calls Running old new number answer h = ap (λ s. s.status) h.2
cancel_status calls Over old new number answer h = ap (λ s. s.status) h.2

pub request_status : {S : Type 0} (calls : Calls S) (g : Setting) (status : Status) (old new : State × S) (op : ℕ) (bytes : List ℕ) (answer : ℕ)
    → RequestIn calls g status old op bytes answer new → new.0.status ≡ old.0.status
request_status calls g Running old new op bytes answer h = ap (λ s. s.status) h.2
request_status calls g Over old new op bytes answer h = ap (λ p. p.0.status) h.1
request_status calls g Failed old new op bytes answer h = ap (λ p. p.0.status) h.1

-- what is exported is found
pub not_missing : (d l : Loaded) (g : Setting) → d ≡ l → l ≡ g.loaded → (name : List ℕ) (o : Option ℕ) → MatchOption o (ExportsNothing d.contents name) (ExportsFunction d.contents name)
    → o ≡ None → exports g.loaded.contents name ≡ true → ⊥
not_missing d l g a b name o found none there =
    let known : is_some o ≡ exports d.contents name = found_exports d.contents name o found in
    let same : exports d.contents name ≡ exports g.loaded.contents name = ap (λ (x : Loaded). exports x.contents name) (a ∙ b) in
    let nothing : false ≡ is_some o = ap is_some (sym none) in
    absurd (let it : false ≡ true = nothing ∙ (known ∙ (same ∙ there)) in cc)

-- an after-work callback is told what became of its request
pub told_of : (o : Option Request) (t : Completion) (A : Option Completion → Type 0) → MatchOption o ⊥ (λ r. completion_of r.stage ≡ Some t) → A (Some t)
    → MatchOption o ⊥ (λ r. A (completion_of r.stage))
told_of None t A h a = absurd h
told_of (Some r) t A h a = subst A (sym h) a

-- a loop that has not failed
pub next_unfailed : (s : State) → (s.status ≡ Running) ⊎ (s.status ≡ Over) → next_order_of s ≡ ((next_of s.requests).0, with_requests s (next_of s.requests).1)
next_unfailed s (inl e) = ap (λ status. next_in status s) e
next_unfailed s (inr e) = ap (λ status. next_in status s) e

pub cancel_unfailed : {S : Type 0} (calls : Calls S) (status : Status) (old new : State × S) (number answer : ℕ) → (status ≡ Running) ⊎ (status ≡ Over)
    → (requests : Requests) × Cancels calls (old.0.requests, old.1) number answer (requests, new.1) × (new.0 ≡ with_requests old.0 requests)
    → CancelIn calls status old number answer new
cancel_unfailed calls status old new number answer (inl e) h = rw e h
cancel_unfailed calls status old new number answer (inr e) h = rw e h

-- a new loop
pub new_state : (m : Contents) (s : State) (callbacks : List (Option ℕ)) (start main : Bool)
    → s ≡ opening (record { handles = empty_table; asyncs = []; closing = []; callbacks = callbacks }) (first_list start main)
    → callbacks ≡ callbacks_of m → start ≡ is_some m.start → main ≡ exports m (codes "uv_main") → s ≡ opening (opening_roster m) (begin_list m)
new_state m s callbacks start main e a b d =
    e ∙ (λ i. opening (record { handles = empty_table; asyncs = []; closing = []; callbacks = a i }) (first_list (b i) (d i)))

pub kept_new : (l : Loaded) (g : Setting) (s : State) (t : Store) → l ≡ g.loaded → (1 ≤ g.depth) × (g.depth ≤ MAX_DEPTH) → IsStoreOf l.contents t
    → s ≡ opening (opening_roster l.contents) (begin_list l.contents) → KeepsLoop l g s t
kept_new l g s t same depth fits is =
    let opened : s ≡ opening (opening_roster g.loaded.contents) (begin_list g.loaded.contents) = is ∙ ap (λ (x : Loaded). opening (opening_roster x.contents) (begin_list x.contents)) same in
    rw opened (record {
      same = same;
      depth = depth;
      store = rw same at fits;
      callbacks = refl;
      ready = ready_opening g.loaded.contents (opening_roster g.loaded.contents);
      orders = λ i d h. absurd (omega arith);
    })

pub called : (o : Option ℕ) (f : ℕ) (P : ℕ → Type 0) → o ≡ Some f → P f → MatchOption o ⊥ P
called o f P is h = rw is h

-- what is handed out is an order of the loop
pub own_order : (g : Setting) (s : State) (o : Option Order) → option_map order_of o ≡ (next_order_of s).0 → AreOrdersOf g s.requests → IfSome o (λ x. IsOrderOf g (order_of x))
own_order g s None h k = tt
own_order g s (Some o) h k = handed_order g s (order_of o) (sym h) k

pub own_of : (P : Order → Type 0) (g : Setting) (o : Option Order) → ((x : Order) → IsOrderOf g (order_of x) → P x) → IfSome o (λ x. IsOrderOf g (order_of x)) → IfSome o P
own_of P g None f h = tt
own_of P g (Some o) f h = f o h
