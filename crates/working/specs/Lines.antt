-- The line of a work order's end.
use Rattle.std.specs.Prelude.{ℕ, List, [], ◌∷◌, ◌++◌, length, codes, decimal}
use Rattle.std.specs.List.{join_with_byte}
use Rattle.hex.specs.Hex.{encode_lower}
use Rattle.order.specs.Work.{WorkEnd, Done, Trap, Depth, Spent, NoMemory}
use Rattle.script.specs.Text.{signed_i32}

-- the bytes of a reply in hex, and nothing where there are none
abbrev pub digits_words : List ℕ → List (List ℕ)
digits_words [] = []
digits_words (byte ∷ bytes) = encode_lower (byte ∷ bytes) ∷ []

-- the words that report a value, which is signed, and so many bytes
abbrev pub done_words : (value count : ℕ) → (digits : List (List ℕ)) → List (List ℕ)
done_words value count digits = codes "done" ∷ signed_i32 value ∷ codes "bytes" ∷ decimal count ∷ digits

-- the words that report an end
abbrev pub end_words : WorkEnd → List (List ℕ)
end_words (Done value bytes) = done_words value (length bytes) (digits_words bytes)
end_words (Trap code) = codes "trap" ∷ decimal code ∷ []
end_words Depth = codes "depth" ∷ []
end_words Spent = codes "spent" ∷ []
end_words NoMemory = codes "nomemory" ∷ []

-- words in one line, with one space between
abbrev pub line : List (List ℕ) → List ℕ
line words = join_with_byte 32 words ++ codes "\n"

abbrev pub end_line : WorkEnd → List ℕ
end_line end = line (end_words end)

-- the line of an end whose bytes stand elsewhere: it says how many they are
abbrev pub short_line : WorkEnd → List ℕ
short_line (Done value bytes) = line (done_words value (length bytes) [])
short_line end = end_line end
