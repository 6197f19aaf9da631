-- A world as it opens.
use Rattle.world.proofs.Words.{All, Answer, ap, arith, Core, core, Desk, Err, FitsLoops, Idle, IsJob, length, length-map, List, Loop, LoopsAreNumbered, map}
use Rattle.world.proofs.Words.{map-append, MAX_JOBS, Ok, opening_loop, opening_world, Order, order_of, refl, replicate, Result, Setting, setting_from}
use Rattle.world.proofs.Words.{settings_from, slice_get, Some, State, subst, suc, sym, take, worker_of, WorldIsKept, zero, ℕ, [], ◌++◌, ◌+◌, ◌∙◌, ◌∷◌, ◌≡◌, ◌≤◌}
use Rattle.std.proofs.Common.{IfOk}
use Rattle.std.proofs.lemmas.List.Elements.{All-nil, All-replicate}
use Rattle.std.proofs.lemmas.List.{length-replicate}
use Rattle.syntax.specs.Loaded.{Loaded}
use Rattle.instance.specs.Store.{Store}
use Rattle.instance.specs.Fresh.{IsFresh}
use Rattle.phases.specs.PhaseList.{begin_list}
use Rattle.phases.specs.Roster.{opening_roster}
use Rattle.phases.specs.State.{opening}
use Rattle.desk.specs.Desk.{new_desk}
use Rattle.world.specs.declared.config.LoopConfig.{LoopConfig}
use Rattle.world.specs.declared.worker.Worker.{Worker as CodeWorker}
use Rattle.world.specs.declared.worker.Worker.TheVariants as worker
use Rattle.world.proofs.StepsAgree.{world_of}

abbrev made : State → Store → Desk → Loop Desk
made s t d = record { state = s; store = t; shared = d }

opened : (g : Setting) (c : Core Desk) → c.setting ≡ g → c.loop.state ≡ opening (opening_roster g.loaded.contents) (begin_list g.loaded.contents)
    → IsFresh g.loaded.contents c.loop.store → c.loop.shared ≡ new_desk g.loop_no → c ≡ opening_loop g
opened g c setting state store shared =
    let l = c.loop in
    ap (λ x. core x l) setting
    ∙ ap (λ x. core g (made x l.store l.shared)) state
    ∙ ap (λ x. core g (made (opening_loop g).loop.state x l.shared)) store.store
    ∙ ap (λ x. core g (made (opening_loop g).loop.state (opening_loop g).loop.store x)) shared

-- what a new loop is
pub opens : {E : Type 0} (g : Setting) (loaded : Loaded) (d : Desk) (r : Result (Core Desk) E) → loaded ≡ g.loaded → d ≡ new_desk g.loop_no
    → IfOk r (λ core. core.setting ≡ record g { loaded = loaded })
    → IfOk r (λ core. core.loop.state ≡ opening (opening_roster loaded.contents) (begin_list loaded.contents))
    → IfOk r (λ core. IsFresh loaded.contents core.loop.store) → IfOk r (λ core. core.loop.shared ≡ d)
    → IfOk r (λ core. core ≡ opening_loop g)
opens g loaded d (Ok c) same new setting state store shared =
    opened g c (setting ∙ ap (λ x. record g { loaded = x }) same) (state ∙ ap (λ x. opening (opening_roster x.contents) (begin_list x.contents)) same)
    (rw same at store) (shared ∙ new)
opens g loaded d (Err e) same new setting state store shared = setting

-- one configuration more
settings_more : (n k : ℕ) (cs : List LoopConfig) (c : LoopConfig) → slice_get cs k ≡ Some c → settings_from n (take (suc k) cs) ≡ settings_from n (take k cs) ++ setting_from (n + k) c ∷ []
settings_more n k [] c at = absurd (cc)
settings_more n zero (x ∷ cs) c at = let same : x ≡ c = cc in ap (λ y. setting_from n y ∷ []) same ∙ ap (λ m. setting_from m c ∷ []) (omega arith)
settings_more n (suc k) (x ∷ cs) c at =
    ap (λ gs. setting_from n x ∷ gs) (settings_more (n + 1) k cs c at ∙ ap (λ m. settings_from (n + 1) (take k cs) ++ setting_from m c ∷ []) (let e : n + 1 + k ≡ n + suc k = omega arith in e))

pub loops_more : (k : ℕ) (cs : List LoopConfig) (c : LoopConfig) (ls : List (Core Desk)) → slice_get cs k ≡ Some c → ls ≡ map opening_loop (settings_from 0 (take k cs))
    → ls ++ opening_loop (setting_from k c) ∷ [] ≡ map opening_loop (settings_from 0 (take (k + 1) cs))
loops_more k cs c ls at is =
    let next : suc k ≡ k + 1 = omega arith in
    let zeroed : 0 + k ≡ k = omega arith in
    let more : settings_from 0 (take (k + 1) cs) ≡ settings_from 0 (take k cs) ++ setting_from k c ∷ [] =
    ap (λ m. settings_from 0 (take m cs)) (sym next) ∙ settings_more 0 k cs c at ∙ ap (λ m. settings_from 0 (take k cs) ++ setting_from m c ∷ []) zeroed in
    ap (λ xs. xs ++ opening_loop (setting_from k c) ∷ []) is
    ∙ sym (ap (map opening_loop) more ∙ map-append opening_loop (settings_from 0 (take k cs)) (setting_from k c ∷ []))

settings_long : (n : ℕ) (cs : List LoopConfig) → length (settings_from n cs) ≡ length cs
settings_long n [] = refl
settings_long n (c ∷ cs) = ap suc (settings_long (n + 1) cs)

opening_numbered : (n : ℕ) (cs : List LoopConfig) → LoopsAreNumbered n (map opening_loop (settings_from n cs))
opening_numbered n [] = tt
opening_numbered n (c ∷ cs) = (refl, opening_numbered (n + 1) cs)

pub workers_opening : (n : ℕ) → map worker_of (replicate n worker.Idle) ≡ replicate n Idle
workers_opening zero = refl
workers_opening (suc n) = ap (λ hs. Idle ∷ hs) (workers_opening n)

abbrev none_waits : List Answer
none_waits = []

pub replies_opening : (n : ℕ) (cs : List LoopConfig) → replicate (length cs) [] ≡ map (λ _. none_waits) (settings_from n cs)
replies_opening n [] = refl
replies_opening n (c ∷ cs) = ap (λ rs. [] ∷ rs) (replies_opening (n + 1) cs)

-- a world that opens keeps what a world keeps
pub opening_kept : {X : Type 0} (cs : List LoopConfig) (ls : List (Core Desk)) (js : List Order) (hs : List CodeWorker) (lists : List X)
    (f : X → List Answer) (workers room : ℕ) → ls ≡ map opening_loop (settings_from 0 cs) → js ≡ [] → hs ≡ replicate workers worker.Idle
    → map f lists ≡ replicate (length cs) [] → MAX_JOBS ≤ room → WorldIsKept ls js hs (length lists) room
opening_kept cs ls js hs lists f workers room loops none states replies roomy = record {
  numbered = subst (LoopsAreNumbered 0) (sym loops) (opening_numbered 0 cs);
  waiting = subst (All (IsJob (length ls))) (sym none) (All-nil (IsJob (length ls)));
  held = subst (All (FitsLoops (length ls))) (sym states) (All-replicate (FitsLoops (length ls)) workers worker.Idle tt);
  paired =
      sym (length-map lists f) ∙ ap length replies ∙ length-replicate (length cs) []
      ∙ sym (ap length loops ∙ length-map (settings_from 0 cs) opening_loop ∙ settings_long 0 cs);
  few = (let long : length js ≡ 0 = ap length none in omega arith);
  roomy = roomy;
}

pub opening_is : {X : Type 0} (cs : List LoopConfig) (ls : List (Core Desk)) (js : List Order) (hs : List CodeWorker) (lists : List X) (f : X → List Answer)
    (workers : ℕ) → ls ≡ map opening_loop (settings_from 0 cs) → js ≡ [] → hs ≡ replicate workers worker.Idle
    → map f lists ≡ replicate (length cs) [] → world_of ls (map order_of js) (map worker_of hs) (map f lists) ≡ opening_world (settings_from 0 cs) workers
opening_is cs ls js hs lists f workers loops none states replies =
    ap (λ x. world_of x (map order_of js) (map worker_of hs) (map f lists)) loops
    ∙ ap (λ x. world_of (map opening_loop (settings_from 0 cs)) (map order_of x) (map worker_of hs) (map f lists)) none
    ∙ ap (λ x. world_of (map opening_loop (settings_from 0 cs)) [] x (map f lists)) (ap (map worker_of) states ∙ workers_opening workers)
    ∙ ap (λ x. world_of (map opening_loop (settings_from 0 cs)) [] (replicate workers Idle) x) (replies ∙ replies_opening 0 cs)
