-- A line in parts, as it is written.
use Rattle.std.proofs.Common.{◌≡◌, ℕ, List, [], ◌∷◌, ◌++◌, codes, decimal, refl, sym, ap, ◌∙◌, append-nil, append_assoc, Result, Ok, Err, OnOk, is_ok, if◌then◌else◌}
use Rattle.std.specs.List.{join_with_byte}
use Rattle.events.specs.declared.ended.Ended.{Ended}
use Rattle.events.specs.declared.phase.EntryKind.{EntryKind}
use Rattle.world_log.specs.declared.entry.LogEntry.TheVariants.{Ran}
use Rattle.script.specs.Text.{spaced, callback_words, ending_words, emit_words, line_of}

-- words with a space between are the first word and the others, each behind a space
pub join-spaced : (word : List ℕ) (words : List (List ℕ)) →
    join_with_byte 32 (word ∷ words) ≡ word ++ spaced words
join-spaced word [] = sym (append-nil word)
join-spaced word (next ∷ words) = ap (λ text. word ++ 32 ∷ text) (join-spaced next words)

pub spaced-append : (xs ys : List (List ℕ)) → spaced (xs ++ ys) ≡ spaced xs ++ spaced ys
spaced-append [] ys = refl
spaced-append (x ∷ xs) ys =
    ap (λ text. 32 ∷ x ++ text) (spaced-append xs ys) ∙ simp append_assoc

regroup : (a b c d e : List ℕ) → (a ++ (b ++ (c ++ d))) ++ e ≡ a ++ (b ++ (c ++ (d ++ e)))
regroup a b c d e = simp append_assoc

-- a line whose words come in three groups behind the first word
in_groups : (first : List ℕ) (xs ys zs : List (List ℕ)) (feed : List ℕ) →
    join_with_byte 32 (first ∷ (xs ++ (ys ++ zs))) ++ feed
    ≡ first ++ (spaced xs ++ (spaced ys ++ (spaced zs ++ feed)))
in_groups first xs ys zs feed =
    ap (λ text. text ++ feed)
    (join-spaced first (xs ++ (ys ++ zs)) ∙ ap (λ text. first ++ text)
    (spaced-append xs (ys ++ zs) ∙ ap (λ text. spaced xs ++ text) (spaced-append ys zs)))
    ∙ regroup first (spaced xs) (spaced ys) (spaced zs) feed

-- the line of a callback that ran
pub ran_line : (loop_no : ℕ) (kind : EntryKind) (number : ℕ) (ended : Ended) (emits : List ℕ) →
    line_of (Ran loop_no kind number ended emits)
    ≡ codes "loop" ++ (spaced (decimal loop_no ∷ codes "run" ∷ callback_words kind number)
    ++ (spaced (ending_words ended.ending) ++ (spaced (codes "used" ∷ decimal ended.used ∷ emit_words emits) ++ codes "\n")))
ran_line loop_no kind number ended emits =
    in_groups (codes "loop") (decimal loop_no ∷ codes "run" ∷ callback_words kind number)
    (ending_words ended.ending) (codes "used" ∷ decimal ended.used ∷ emit_words emits) (codes "\n")

-- what is written by one last piece
pub with_last : {T E : Type 0} (r : Result T E) (new old piece whole : List ℕ) →
    new ≡ (if is_ok r then old ++ piece else old) → old ++ piece ≡ whole → OnOk r (new ≡ whole)
with_last (Ok x) new old piece whole written e = written ∙ e
with_last (Err x) new old piece whole written e = tt

-- what is written in five pieces
pub in_pieces : (start t1 t2 t3 t4 first a b c d feed : List ℕ) →
    t1 ≡ start ++ first ++ a → t2 ≡ t1 ++ b → t3 ≡ t2 ++ c → t4 ≡ t3 ++ d →
    t4 ++ feed ≡ start ++ (first ++ (a ++ (b ++ ((c ++ d) ++ feed))))
in_pieces start t1 t2 t3 t4 first a b c d feed e1 e2 e3 e4 = rw (e4, e3, e2, e1) (simp append_assoc)
