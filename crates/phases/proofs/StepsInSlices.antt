-- A step that is made in slices.
use Rattle.phases.proofs.Words.{ap, AreTables, arith, begun, Caller, calling, Calls, Contents, Core, Ended, EntryKind, Halt, HasNoResults, Host, IsLinked}
use Rattle.phases.proofs.Words.{KeepsLoop, Leads, length, List, Loaded, Loop, moves, Option, Paused, refl, RunIsOver, RunIsPaused, scene, Setting, setting_of}
use Rattle.phases.proofs.Words.{SideTable, State, Store, sym, TakesArguments, ValidModule, ValType, Value, ℕ, [], ◌<◌, ◌∙◌, ◌∷◌, ◌≡◌, ◌≤◌}
use Rattle.events.specs.Bare.{IsBare}
use Rattle.events.specs.declared.ended.Ending.{Ending}
use Rattle.events.specs.declared.ended.Ending.TheVariants.{Return}
use Rattle.reduction.specs.Invoking.{ReturnsTyped}
use Rattle.reduction.specs.Running.{AreResults}
use Rattle.order.proofs.InSlices.{bare_is_defined}
use Rattle.phases.specs.Underway.{StepInSlices, StepHasCome, IsCallback}
use Rattle.phases.proofs.Relocated.{placed, placed_is, paused_at_placed, same_made}

module _ {S : Type 0} (calls : Calls S) (loaded : Loaded) (kind : EntryKind) (number : ℕ) (tables : List SideTable) where
  -- a step whose callback has come there
  abbrev pub step_at : (paused : Paused) → (slots : List ℕ) → List Caller → Store → Host calls → StepInSlices S
  step_at paused slots callers store host = record {
    loaded = loaded;
    setting = setting_of host.setting;
    kind = kind;
    number = number;
    tables = tables;
    paused = paused;
    slots = slots;
    callers = callers;
    loop = record { state = host.state; store = store; shared = host.shared };
    copied = host.copied;
  }

  module _ (paused : Paused) (slots : List ℕ) (callers : List Caller) (store : Store) (actual : Host calls) (a : Core S)
      (come : StepHasCome calls a (step_at paused slots callers store actual)) where
    abbrev pub first : Host calls
    first = placed calls actual come.callback.before

    -- it has come over the host that there is
    pub here : RunIsPaused loaded.contents tables (moves calls) come.mid.store first come.args a.setting.fuel paused slots callers store actual
    here =
        let it = come.callback in
        rw (placed_is calls actual come.host come.stands) at (paused_at_placed calls actual it.before come.host (it.made ∙ sym it.set) loaded.contents tables come.mid.store store come.args a.setting.fuel paused slots callers it.under_way)

    -- it is over
    pub leads_over : (ended : Ended) (t : Store) (after : Host calls) (stop : Option Halt)
        → RunIsOver loaded.contents paused.depth (moves calls) paused.function come.mid.store first come.args a.setting.fuel ended t after stop
        → Leads (moves calls) (calling loaded.contents paused.function come.args a.setting.fuel a.setting.depth) (scene come.mid.store first) ended stop (scene t after)
    leads_over ended t after stop over =
        rw come.callback.deep at over.leads

-- it has come further
module _ {S : Type 0} (calls : Calls S) (loaded : Loaded) (kind : EntryKind) (number : ℕ) (ts ts' : List SideTable) (valid : ValidModule loaded.contents)
    (agree : AreTables loaded.contents ts') (paused : Paused) (slots : List ℕ) (callers : List Caller) (store : Store) (host : Host calls)
    (next : Paused) (slots' : List ℕ) (callers' : List Caller) (t : Store) (after : Host calls)
    (call : (next.function ≡ paused.function) × (next.depth ≡ paused.depth)) where
  abbrev now : StepInSlices S
  now = step_at calls loaded kind number ts paused slots callers store host

  abbrev then_at : StepInSlices S
  then_at = step_at calls loaded kind number ts' next slots' callers' t after

  pub further : (g : Setting) (mid : Loop S) (args : List Value) (reply : Option (List ℕ)) (over : Host calls) → IsCallback calls g mid args reply now over
      → (before : Host calls) → setting_of before.setting ≡ g → ◌≡◌ {A = State × S} (before.state, before.shared) (begun mid.state reply, mid.shared)
      → RunIsPaused loaded.contents ts' (moves calls) mid.store before args g.fuel next slots' callers' t after → IsCallback calls g mid args reply then_at after
  further g mid args reply over it before made begins there = record {
    set = same_made calls loaded.contents valid ts' agree mid.store t before after args g.fuel next slots' callers' there ∙ made;
    keeps = it.keeps;
    before = before;
    made = made;
    begins = begins;
    deep = call.1 ∙ it.deep;
    under_way = there;
  }

  module _ (a : Core S) (come : StepHasCome calls a now) where
    abbrev from : Host calls
    from = first calls loaded kind number ts paused slots callers store host a come

    pub comes_further : RunIsPaused loaded.contents ts' (moves calls) come.mid.store from come.args a.setting.fuel next slots' callers' t after → 1 ≤ next.left
        → StepHasCome calls a then_at × (next.used < a.setting.fuel)
    comes_further there left =
        let paid = there.paid in (
          record {
            mid = come.mid;
            args = come.args;
            reply = come.reply;
            host = after;
            stands = refl;
            callback = further a.setting come.mid come.args come.reply come.host come.callback from come.callback.set come.callback.begins there;
            leads = rw call.0 come.leads;
          },
          omega (arith, paid, left),
        )

-- a callback without results ends without any
pub ended_bare : (m m' : Contents) → m' ≡ m → (function : ℕ) (args : List Value) → TakesArguments m function args → HasNoResults m function → (ending : Ending)
    → ReturnsTyped m' function ending → IsBare ending
ended_bare m m' same function args takes bare ending typed =
    let here : ReturnsTyped m function ending = rw same at typed in
    bare_of ending takes.type.results (here takes.type takes.known) (bare.none takes.type takes.known) where
      bare_of : (end : Ending) (types : List ValType) → AreResults end types → types ≡ [] → IsBare end
      bare_of (Return []) types fit none = refl
      bare_of (Return (value ∷ values)) types fit none = absurd (cc)
      bare_of _ types fit none = tt

-- a function without results is the module's own
pub is_defined : (l : Loaded) → IsLinked l.contents → (function : ℕ) (args : List Value) → TakesArguments l.contents function args → HasNoResults l.contents function
    → length l.contents.imports ≤ function
is_defined l linked function args takes bare = bare_is_defined l.contents linked function takes.type takes.known (bare.none takes.type takes.known)

-- a callback begins
module _ {S : Type 0} (calls : Calls S) (l : Loaded) (g : Setting) (mid : Loop S) (keeps : KeepsLoop l g mid.state mid.store) (host : Host calls) (store : Store)
    (made : setting_of host.setting ≡ g) (stored : store ≡ mid.store) where
  pub begins_callback : (v : Loaded) → v ≡ l → (kind : EntryKind) (number : ℕ) (tables : List SideTable) (args : List Value) (reply : Option (List ℕ))
      (paused : Paused) (slots : List ℕ) (callers : List Caller)
      → ◌≡◌ {A = State × S} (host.state, host.shared) (begun mid.state reply, mid.shared)
      → paused.depth ≡ (setting_of host.setting).depth
      → RunIsPaused v.contents tables (moves calls) store host args (setting_of host.setting).fuel paused slots callers store host
      → IsCallback calls g mid args reply (step_at calls l kind number tables paused slots callers store host) host
  begins_callback v is kind number tables args reply paused slots callers begins deep run = record {
    set = made;
    keeps = keeps;
    before = host;
    made = made;
    begins = begins;
    deep = deep ∙ ap (λ (x : Setting). x.depth) made;
    under_way = rw (sym stored, sym made, sym is) run;
  }
