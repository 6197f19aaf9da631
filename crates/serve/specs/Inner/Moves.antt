-- How a call moves the record of a loop.
use Rattle.std.specs.Prelude.{◌≡◌, ◌⊎◌, ℕ, ◌+◌, ◌++◌, Bool, List, [], ◌∷◌, Option, option_map}
use Rattle.claims.specs.Views.{PostsSlot}
use Rattle.order.specs.Orders.{order_of, end_of}
use Rattle.order.specs.declared.order.Order.{Order}
use Rattle.order.specs.declared.reply.Reply.{Reply}
use Rattle.phases.specs.History.{Event, OrderAsked, EndOffered, MovedBeside, emitted}
use Rattle.serve.specs.declared.record.LoopRecord.{LoopRecord}
use Rattle.serve.specs.Histories.{ThreadHistory, thread_calls, callbacks_in}
use Rattle.serve.specs.Inner.Ends.{offered_in}
use Rattle.serve.specs.Inner.Posts.{PostsNone}

-- by these events, with what their callbacks emitted
pub record MovesBy (old : LoopRecord) (events : List Event) (new : LoopRecord) : Type 0 where
  pub setting : new.core.setting ≡ old.core.setting
  pub history : ThreadHistory thread_calls old.core.setting old.core.loop events new.core.loop
  pub counted : new.ran ≡ old.ran + callbacks_in events
  pub told : new.emits.items ≡ old.emits.items ++ emitted events

-- by some events in which no reply is offered and nothing is posted
pub record MovesAlone (old new : LoopRecord) : Type 0 where
  pub events : List Event
  pub moves : MovesBy old events new
  pub none : offered_in events ≡ []
  pub unposted : PostsNone events

-- it hands out this order, if there is one
abbrev pub RecordHandsOut : LoopRecord → Option Order → LoopRecord → Type 0
RecordHandsOut old order new = MovesBy old (OrderAsked (option_map order_of order) ∷ []) new

-- it is offered this reply, and takes it or not
abbrev pub IsOffered : LoopRecord → Reply → LoopRecord → Type 0
IsOffered old reply new = (is_taken : Bool) × MovesBy old (EndOffered (order_of reply.order) (end_of reply.outcome) is_taken ∷ []) new

-- it posts this request, or does not
pub record RecordPosts (old : LoopRecord) (c : ℕ × ℕ) (new : LoopRecord) : Type 0 where
  pub moves : MovesBy old (MovedBeside ∷ []) new
  pub posts : PostsSlot old.core.loop.shared.loop_seat new.core.loop.shared.loop_seat c ⊎ (new.core.loop.shared.loop_seat ≡ old.core.loop.shared.loop_seat)
  pub taker : new.core.loop.shared.taker ≡ old.core.loop.shared.taker
