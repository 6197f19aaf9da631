use Rattle.std.proofs.Common.{◌≡◌, ◌++◌, ◌∷◌, string_bytes, codes, decimal, sym, ap, ◌∙◌}
use Rattle.script.proofs.Lines.{ran_line, with_last, in_pieces}
use Rattle.script.specs.Text.{spaced, callback_words, ending_words, emit_words}
use Rattle.script.proofs.text.write_run.Goals as goal

pub returns : goal.returns
returns c =
    let front : string_bytes c.write_callback.new.text ≡ string_bytes c.args.text.now
    ++ codes "loop" ++ spaced (decimal c.args.loop_no ∷ codes "run" ∷ callback_words c.args.kind c.args.number)
    = c.in_ok-write_callback.ensures in
    let ending : string_bytes c.write_ending.new.text ≡ string_bytes c.write_callback.new.text ++ spaced (ending_words c.args.ended.now.ending)
    = c.in_ok-write_ending.ensures in
    let used : string_bytes c.write.new.self ≡ string_bytes c.write_ending.new.text ++ (codes " used " ++ decimal c.args.ended.now.used)
    = c.in_ok-write.ensures.bytes in
    let emits : string_bytes c.write_emits.new.text ≡ string_bytes c.write.new.self ++ spaced (emit_words c.args.emits.now)
    = c.in_ok-write_emits.ensures in
    with_last c.push_str.result _ (string_bytes c.write_emits.new.text) (codes "\n") _ c.push_str.ensures.bytes
    (in_pieces _ _ _ _ _ (codes "loop") _ _ (codes " used " ++ decimal c.args.ended.now.used) _ (codes "\n") front ending used emits
    ∙ ap (λ line. string_bytes c.args.text.now ++ line)
    (sym (ran_line c.args.loop_no c.args.kind c.args.number c.args.ended.now c.args.emits.now)))
