-- What a work order may read.
use Rattle.std.specs.Prelude.{ℕ, vec_len}
use Rattle.words.specs.declared.command.WorkInput.{WorkInput}
use Rattle.words.specs.declared.command.WorkInput.TheVariants.{Bytes, File}

-- how many bytes the words spell; those of a file are counted as it is read
abbrev pub spelled_count : WorkInput → ℕ
spelled_count (Bytes bytes) = vec_len bytes
spelled_count (File name) = 0
