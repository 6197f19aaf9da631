-- A loop whose step is under way, as the threads go on: the step can yet be taken as a whole.
use Rattle.schedules.proofs.Words.{Access, AccessMoves, ap, append-nil, append_assoc, Core, core, Desk, desk_calls, DeskGets, inl, inr, is_open_request, List}
use Rattle.schedules.proofs.Words.{Loop, MAX_ASYNCS, over, Reach, refl, Setting, sharing, started, StepsBy, StepsWith, StepUnderway, subst, sym, true, ℕ, []}
use Rattle.schedules.proofs.Words.{◌++◌, ◌<◌, ◌∙◌, ◌∷◌, ◌≡◌, ◌≤◌, ◌⊎◌}
use Rattle.reduction.proofs.StepByStep.{steps_join}
use Rattle.schedules.proofs.Alike.{IsBehind, AreLate}
use Rattle.schedules.proofs.Numbers.{step_opens, others_front}
use Rattle.schedules.proofs.SendsMoveBehind.{Got, Gets, gets_open, gets_started, moves_first, TakesFirst, takes_first, no_take_behind}
use Rattle.schedules.proofs.StepsByAccess.{step_whole}
use Rattle.schedules.proofs.StartsMoveBefore.{OpenOthers, StartsAhead, starts_ahead}

-- as the step begins
pub behind_begun : (g : Setting) (l : Loop Desk) (u : StepUnderway) (q : Core Desk) → q ≡ core g l → StepsBy g l u.ahead u.did u.made u.state u.store → IsBehind (core g l) u q
behind_begun g l u q is steps = subst (IsBehind (core g l) u) (sym is) (record {
  setting = refl;
  state = refl;
  store = refl;
  done = [];
  late = [];
  came = refl;
  desk = l.shared;
  reaches = refl;
  gets = refl;
  steps = steps;
})

module _ (g : Setting) (l : Loop Desk) (u : StepUnderway) (q : Core Desk) (b : IsBehind (core g l) u q) where
  -- the step goes on
  module _ (a : Access) (ahead : List Access) (e : Desk) (moves : AccessMoves l.shared a e) where
    abbrev Passed : List Access → Type 0
    Passed done = (late : List ℕ) × (desk : Desk) × AreLate (done ++ a ∷ []) late × Reach q.loop.shared (done ++ a ∷ []) desk × Gets desk late e

    passes : (done : List Access) (late : List ℕ) (desk : Desk) → AreLate done late → Reach q.loop.shared done desk → Gets desk late l.shared → TakesFirst (done ++ a ∷ ahead) → Passed done
    passes [] late desk came reaches gets quiet =
        let same : l.shared ≡ desk = subst (λ xs. Gets desk xs l.shared) came gets in
        ([], e, tt, steps_join AccessMoves [] (a ∷ []) q.loop.shared desk e reaches (e, subst (λ x. AccessMoves x a e) same moves, refl), refl)
    passes (x ∷ done) late desk came reaches gets quiet =
        let it = moves_first desk l.shared e late a (no_take_behind a x done ahead quiet) gets moves in
        (late, it.0, tt, steps_join AccessMoves (x ∷ done) (a ∷ []) q.loop.shared desk it.0 reaches (it.0, it.1, refl), it.2)

    pub behind_next : u.ahead ≡ a ∷ ahead → IsBehind (core g (sharing l e)) (record u { ahead = ahead }) q
    behind_next is =
        let steps : StepsBy g l (b.done ++ a ∷ ahead) u.did u.made u.state u.store = subst (λ xs. StepsBy g l (b.done ++ xs) u.did u.made u.state u.store) is b.steps in
        let it = passes b.done b.late b.desk b.came b.reaches b.gets (takes_first g l (b.done ++ a ∷ ahead) u.did u.made u.state u.store steps) in
        record {
          setting = b.setting;
          state = b.state;
          store = b.store;
          done = b.done ++ a ∷ [];
          late = it.0;
          came = it.2;
          desk = it.1;
          reaches = it.3;
          gets = it.4;
          steps = subst (λ xs. StepsBy g l xs u.did u.made u.state u.store) (sym (append_assoc b.done (a ∷ []) ahead)) steps;
        }

  -- a job of the loop is begun
  pub behind_started : (c : ℕ × ℕ) → c.1 ≤ l.state.requests.last → is_open_request l.shared c ≡ true
      → (is_open_request q.loop.shared c ≡ true) × IsBehind (core g (sharing l (started l.shared c))) u (core q.setting (sharing q.loop (started q.loop.shared c)))
  behind_started c given opens = (
    it.open_before,
    record {
      setting = b.setting;
      state = b.state;
      store = b.store;
      done = b.done;
      late = b.late;
      came = b.came;
      desk = started b.desk c;
      reaches = it.reaches;
      gets = gets_started c b.desk l.shared b.late b.gets;
      steps = b.steps;
    },
  ) where
    others : OpenOthers c.1 b.done
    others = others_front c.1 b.done u.ahead (step_opens g l (b.done ++ u.ahead) u.did u.made u.state u.store b.steps c.1 given)

    it : StartsAhead c q.loop.shared b.done b.desk
    it = starts_ahead c q.loop.shared b.desk b.done others (sym (gets_open c b.desk l.shared b.late b.gets) ∙ opens) b.reaches

  -- another thread sends: before the step, or once it will be taken
  abbrev pub Received : ℕ → Desk → Type 0
  Received a e =
      (DeskGets q.loop.shared a true e × IsBehind (core g (sharing l e)) u (core q.setting (sharing q.loop e)))
      ⊎ IsBehind (core g (sharing l e)) u q

  pub behind_sent : (a : ℕ) (e : Desk) → a < MAX_ASYNCS → DeskGets l.shared a true e → Received a e
  behind_sent a e below moves = by b.done b.late b.desk b.came b.reaches b.gets b.steps where
    by : (done : List Access) (late : List ℕ) (desk : Desk) → AreLate done late → Reach q.loop.shared done desk → Gets desk late l.shared
        → StepsBy g l (done ++ u.ahead) u.did u.made u.state u.store → Received a e
    by [] late desk came reaches gets steps =
        let same : l.shared ≡ desk = subst (λ xs. Gets desk xs l.shared) came gets in
        inl (
          rw (← (same ∙ reaches)) moves,
          record {
            setting = b.setting;
            state = b.state;
            store = b.store;
            done = [];
            late = [];
            came = refl;
            desk = e;
            reaches = refl;
            gets = refl;
            steps = steps;
          },
        )
    by (x ∷ done) late desk came reaches gets steps = inr (record {
      setting = b.setting;
      state = b.state;
      store = b.store;
      done = x ∷ done;
      late = late ++ a ∷ [];
      came = tt;
      desk = desk;
      reaches = reaches;
      gets = steps_join Got late (a ∷ []) desk l.shared e gets (e, (below, moves), refl);
      steps = steps;
    })

  -- the whole step
  pub behind_is : q ≡ core g (over q.loop.shared l)
  behind_is =
      ap (λ x. core x q.loop) b.setting
      ∙ ap (λ x. core g (record { state = x; store = q.loop.store; shared = q.loop.shared })) b.state
      ∙ ap (λ x. core g (record { state = l.state; store = x; shared = q.loop.shared })) b.store

  pub behind_ended : u.ahead ≡ [] → StepsWith desk_calls g (over q.loop.shared l) u.did u.made (record { state = u.state; store = u.store; shared = b.desk })
  behind_ended none =
      let steps : StepsBy g l b.done u.did u.made u.state u.store = subst (λ xs. StepsBy g l xs u.did u.made u.state u.store) (ap (λ xs. b.done ++ xs) none ∙ append-nil b.done) b.steps in
      step_whole g l b.done u.did u.made u.state u.store b.desk q.loop.shared steps b.reaches
