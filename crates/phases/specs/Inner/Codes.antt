-- The codes of a loop's parts, by which they can be a model's value.
use Rattle.std.specs.Prelude.{◌≡◌, ℕ, zero, suc, List, [], Option, Some, None, refl}
use Rattle.std.specs.Coded.{Coded, code_by, coded×, coded_ℕ, coded_list, coded_option}
use Rattle.syntax.specs.Loaded.{loaded_coded}
use Rattle.handles.specs.Inner.Codes.{table_code}
use Rattle.order.specs.Work.{WorkOrder, WorkEnd, Done, Trap, Depth, Spent, NoMemory}
use Rattle.phases.specs.Requests.{Requests, Request, Stage, Open, HandedOut, Answered, Cancelled}
use Rattle.phases.specs.Roster.{Roster}

-- an end as its kind, a number and its bytes
abbrev pub end_parts : WorkEnd → ℕ × (ℕ × List ℕ)
end_parts (Done value bytes) = (0, (value, bytes))
end_parts (Trap code) = (1, (code, []))
end_parts Depth = (2, (0, []))
end_parts Spent = (3, (0, []))
end_parts NoMemory = (4, (0, []))

abbrev pub end_from : ℕ → ℕ → List ℕ → WorkEnd
end_from zero value bytes = Done value bytes
end_from (suc zero) value bytes = Trap value
end_from (suc (suc zero)) value bytes = Depth
end_from (suc (suc (suc zero))) value bytes = Spent
end_from (suc (suc (suc (suc n)))) value bytes = NoMemory

pub end_from-end_parts : (end : WorkEnd) → end_from (end_parts end).0 (end_parts end).1.0 (end_parts end).1.1 ≡ end
end_from-end_parts (Done value bytes) = refl
end_from-end_parts _ = refl

abbrev pub end_code : Coded WorkEnd
end_code =
    code_by (ℕ × (ℕ × List ℕ)) (coded× coded_ℕ (coded× coded_ℕ (coded_list coded_ℕ))) end_parts
    (λ p. end_from p.0 p.1.0 p.1.1) end_from-end_parts

-- a stage as its kind and the end of an answer
abbrev pub stage_parts : Stage → ℕ × Option WorkEnd
stage_parts Open = (0, None)
stage_parts HandedOut = (1, None)
stage_parts Cancelled = (2, None)
stage_parts (Answered end) = (3, Some end)

abbrev pub stage_from : ℕ → Option WorkEnd → Stage
stage_from zero end = Open
stage_from (suc zero) end = HandedOut
stage_from (suc (suc n)) None = Cancelled
stage_from (suc (suc n)) (Some end) = Answered end

pub stage_from-stage_parts : (stage : Stage) → stage_from (stage_parts stage).0 (stage_parts stage).1 ≡ stage
stage_from-stage_parts Open = refl
stage_from-stage_parts _ = refl

abbrev pub stage_code : Coded Stage
stage_code = code_by (ℕ × Option WorkEnd) (coded× coded_ℕ (coded_option end_code)) stage_parts
    (λ p. stage_from p.0 p.1) stage_from-stage_parts

abbrev pub order_code : Coded WorkOrder
order_code =
    code_by ((ℕ × (ℕ × ℕ)) × (_ × (ℕ × (List ℕ × (ℕ × ℕ)))))
    (coded× (coded× coded_ℕ (coded× coded_ℕ coded_ℕ)) (coded× loaded_coded
    (coded× coded_ℕ (coded× (coded_list coded_ℕ) (coded× coded_ℕ coded_ℕ)))))
    (λ o. ((o.loop_no, (o.request, o.slot)), (o.loaded, (o.op, (o.bytes, (o.fuel, o.depth))))))
    (λ p. record {
      loop_no = p.0.0;
      request = p.0.1.0;
      slot = p.0.1.1;
      loaded = p.1.0;
      op = p.1.1.0;
      bytes = p.1.1.1.0;
      fuel = p.1.1.1.1.0;
      depth = p.1.1.1.1.1;
    })
    (λ _. refl)

abbrev pub request_code : Coded Request
request_code = code_by (WorkOrder × Stage) (coded× order_code stage_code) (λ r. (r.order, r.stage))
    (λ p. record { order = p.0; stage = p.1 }) (λ _. refl)

abbrev pub requests_code : Coded Requests
requests_code =
    code_by (List Request × ℕ) (coded× (coded_list request_code) coded_ℕ) (λ rs. (rs.outstanding, rs.last))
    (λ p. record { outstanding = p.0; last = p.1 }) (λ _. refl)

abbrev pub roster_code : Coded Roster
roster_code =
    code_by ((_ × List (Option ℕ)) × (List ℕ × List (Option ℕ)))
    (coded× (coded× table_code (coded_list (coded_option coded_ℕ))) (coded× (coded_list coded_ℕ) (coded_list (coded_option coded_ℕ))))
    (λ r. ((r.handles, r.asyncs), (r.closing, r.callbacks)))
    (λ p. record { handles = p.0.0; asyncs = p.0.1; closing = p.1.0; callbacks = p.1.1 })
    (λ _. refl)
