-- How the code's collecting of replies reads as a world's.
use Rattle.world.proofs.Words.{Answer, answer_of, ap, arith, Core, Desk, false, get_or, is_failed, length, List, Loop, map, map_get, refl, Reply, set_same}
use Rattle.world.proofs.Words.{slice_get, slice_get-get_or, slice_set, Some, sym, true, with_loop, Worker, WorkOrder, World, ℕ, [], ◌<◌, ◌∙◌, ◌∷◌, ◌≡◌}
use Rattle.phases.specs.declared.loop_core.Accepted.{Accepted}
use Rattle.phases.specs.declared.loop_core.Accepted.TheVariants as accept
use Rattle.phases.specs.Accepting.{Accepts}
use Rattle.world_log.specs.declared.entry.LogEntry.TheVariants as line
use Rattle.world_log.specs.declared.outcome.CollectOutcome.{CollectOutcome}
use Rattle.world_log.specs.declared.outcome.CollectOutcome.TheVariants as collect
use Rattle.world.specs.World.{CollectsReplies, with_replies}
use Rattle.world.proofs.StepsAgree.{world_of, here, untouched, moved, failing, going_on}

-- what stands at a place, as it reads
pub reads_at : {X Y : Type 0} (f : X → Y) (xs : List X) (n : ℕ) (x : X) → n < length xs → x ≡ get_or xs n x → slice_get (map f xs) n ≡ Some (f x)
reads_at f xs n x within is = map_get f xs n x (slice_get-get_or xs n x within ∙ ap Some (sym is))

pub emptied : {X : Type 0} (xs : List X) → length xs ≡ 0 → xs ≡ []
emptied [] e = refl
emptied (x ∷ xs) e = absurd (omega (arith, e))

module _ (w : World) (ls : List (Core Desk)) (js : List WorkOrder) (hs : List Worker) (rs : List (List Answer)) (is : world_of ls js hs rs ≡ w) (n : ℕ)
    (p : Core Desk) (at : slice_get ls n ≡ Some p) where
  there : (replies : List Answer) → slice_get rs n ≡ Some replies → slice_get w.replies n ≡ Some replies
  there replies waits = ap (λ x. slice_get x.replies n) (sym is) ∙ waits

  pub collect_failed : n < length rs → is_failed p.loop.state.status ≡ true → CollectsReplies w n (line.Failed n) (world_of (slice_set ls n p) js hs rs)
  collect_failed within f = (p.setting, p.loop, get_or rs n [], here w ls js hs rs is n p at, there _ (slice_get-get_or rs n [] within), failing w ls js hs rs is n p at _ f)

  pub collect_nothing : (rs' : List (List Answer)) → slice_get rs n ≡ Some [] → is_failed p.loop.state.status ≡ false → rs' ≡ slice_set rs n []
      → CollectsReplies w n (line.Collect n collect.Nothing) (world_of (slice_set ls n p) js hs rs')
  collect_nothing rs' waits f after = (
    p.setting,
    p.loop,
    [],
    here w ls js hs rs is n p at,
    there [] waits,
    going_on w ls js hs rs is n p at _ _ _ f
        (refl, ap (λ x. world_of (slice_set ls n p) js hs x) (after ∙ set_same rs n [] waits) ∙ untouched w ls js hs rs is n p at),
  )

  module _ (reply : Reply) (rest : List Answer) (rs' : List (List Answer)) (q : Core Desk) (waits : slice_get rs n ≡ Some (answer_of reply ∷ rest))
      (f : is_failed p.loop.state.status ≡ false) (e : q.setting ≡ p.setting) (after : rs' ≡ slice_set rs n rest) where
    left : (l : Loop Desk) → q.loop ≡ l → world_of (slice_set ls n q) js hs rs' ≡ with_replies (with_loop w n p.setting l) n rest
    left l core = ap (λ x. world_of (slice_set ls n q) js hs x) after ∙ ap (λ x. with_replies x n rest) (moved w ls js hs rs is n p at q e ∙ ap (with_loop w n p.setting) core)

    pub collect_taken : (fate : Accepted) (outcome : CollectOutcome) → Accepts reply p.loop fate q.loop → fate ≡ accept.Accepted → outcome ≡ collect.Request reply.order.request
        → CollectsReplies w n (line.Collect n outcome) (world_of (slice_set ls n q) js hs rs')
    collect_taken fate outcome h is_taken told =
        let taken : Accepts reply p.loop accept.Accepted q.loop = rw is_taken at h in (
          p.setting,
          p.loop,
          answer_of reply ∷ rest,
          here w ls js hs rs is n p at,
          there (answer_of reply ∷ rest) waits,
          going_on w ls js hs rs is n p at _ _ _ f (true, (taken.0, ap (line.Collect n) told, left _ taken.1)),
        )

    pub collect_stranger : (fate : Accepted) (other : Reply) (outcome : CollectOutcome) → Accepts reply p.loop fate q.loop → fate ≡ accept.Stranger other → outcome ≡ collect.Stranger
        → CollectsReplies w n (line.Collect n outcome) (world_of (slice_set ls n q) js hs rs')
    collect_stranger fate other outcome h is_strange told =
        let strange : Accepts reply p.loop (accept.Stranger other) q.loop = rw is_strange at h in (
          p.setting,
          p.loop,
          answer_of reply ∷ rest,
          here w ls js hs rs is n p at,
          there (answer_of reply ∷ rest) waits,
          going_on w ls js hs rs is n p at _ _ _ f
              (false, (strange.2, ap (line.Collect n) told, left _ strange.1 ∙ ap (λ x. with_replies (record w { loops = x }) n rest) (set_same w.loops n p (here w ls js hs rs is n p at)))),
        )
