-- Where a callback stopped, told of its loop.
use Rattle.phases.proofs.Words.{calling, Calls, Ended, Halt, HostStep, IfSome, Leads, List, Loaded, LoopStopsAt, None, Option, scene, Setting, Some, State}
use Rattle.phases.proofs.Words.{Store, subst, sym, Value, ℕ, ◌∙◌, ◌≡◌}
use Rattle.phases.specs.Hosting.{Answered}
use Rattle.phases.proofs.GuestCallsKeep.{served}

-- where a call on the host of a loop stopped, if it did
pub stops_at : {G S : Type 0} (calls : Calls S) (setting : G → Setting) (standing : G → State × S) (v : Loaded) (g : Setting) → v ≡ g.loaded
    → (before after : G) → setting before ≡ g → (s t : Store) (function : ℕ) (args : List Value) (ended : Ended) (stop : Option Halt)
    → Leads (Answered calls setting standing) (calling v.contents function args g.fuel g.depth) (scene s before) ended stop (scene t after)
    → IfSome stop (λ sites. ∥ LoopStopsAt calls (setting after) t sites ∥₁)
stops_at calls setting standing v g is before after made s t function args ended None w = tt
stops_at calls setting standing v g is before after made s t function args ended (Some sites) w =
    let it = served calls setting standing w.asked before after w.answered in
    subst (λ (x : Setting). ∥ LoopStopsAt calls x t sites ∥₁) (sym (it.same ∙ made))
    ∣ record {
      function = function;
      args = args;
      ended = ended;
      before = s;
      begun = standing before;
      over = standing after;
      leads = subst (λ (x : Loaded). Leads (HostStep calls g) (calling x.contents function args g.fuel g.depth) (scene s (standing before)) ended (Some sites) (scene t (standing after))) is (record {
        asked = w.asked;
        ran = w.ran;
        answered = rw made at it.answers;
        stopped = w.stopped;
      });
    } ∣₁
