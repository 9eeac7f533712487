-- An input: at most 65,536 bytes, as little-endian words a count, that many nodes to freeze, an image. Assumes nothing.
use Rattle.std.specs.Prelude.{◌≡◌, ℕ, ◌+◌, ◌*◌, ◌%◌, Bool, true, cond, ◌&&◌, List, [], ◌∷◌, length, take, drop, Ok, Err, Result, ◌==◌, nat_le, slice_set}
use Rattle.image.specs.Faults.{fault, ◌then◌}
use Rattle.image.specs.declared.fault.Fault.{Fault}
use Rattle.intake.specs.Answers.{take_in_answer, froze_answer, only_zero}

-- the word that four bytes are, the lowest first
abbrev pub word : ℕ → ℕ → ℕ → ℕ → ℕ
word a b c d = a + 256 * b + 65536 * c + 16777216 * d

-- the words of a list of bytes, without a broken last one
unfoldable pub words_of : List ℕ → List ℕ
words_of [] = []
words_of (a ∷ []) = []
words_of (a ∷ b ∷ []) = []
words_of (a ∷ b ∷ c ∷ []) = []
words_of (a ∷ b ∷ c ∷ d ∷ xs) = word a b c d ∷ words_of xs

-- the words of an input; too many bytes, or a broken last word, are refused
abbrev pub input_words : List ℕ → Result (List ℕ) Fault
input_words bytes = cond (nat_le (length bytes) 65536 && length bytes % 4 == 0) (Ok (words_of bytes)) (Err (fault 1 0))

-- the nodes to freeze and the image; a missing or cut list is refused
abbrev pub parts : List ℕ → Result (List ℕ × List ℕ) Fault
parts [] = Err (fault 1 0)
parts (n ∷ ws) = cond (nat_le n (length ws)) (Ok (take n ws, drop n ws)) (Err (fault 1 0))

-- what freezing nodes in order answers
abbrev pub freeze_answer : List ℕ → List ℕ → Result (Unit {0}) Fault
freeze_answer ws [] = Ok tt
freeze_answer ws (n ∷ ns) = froze_answer ws n then (λ _. freeze_answer ws ns)

-- the flags with all of the nodes frozen
abbrev pub with_frozen : List Bool → List ℕ → List Bool
with_frozen fs [] = fs
with_frozen fs (n ∷ ns) = with_frozen (slice_set fs n true) ns

-- what taking an image in and then freezing nodes in order answers
abbrev pub image_answer : List ℕ → List ℕ → Result (Unit {0}) Fault
image_answer ws ns = take_in_answer ws then (λ _. freeze_answer ws ns)

-- what opening an input answers
unfoldable pub open_answer : List ℕ → Result (Unit {0}) Fault
open_answer ws = parts ws then (λ p. image_answer p.1 p.0)

-- the image and the flags are those of an input
abbrev pub Opened : List ℕ → List ℕ → List Bool → Type 0
Opened ws image fs = (ns : List ℕ) × (parts ws ≡ Ok (ns, image)) × (fs ≡ with_frozen only_zero ns)

-- what opening the bytes of an input answers
abbrev pub bytes_answer : List ℕ → Result (Unit {0}) Fault
bytes_answer bytes = input_words bytes then open_answer

-- the image and the flags are those of an input given as bytes
abbrev pub OpenedBytes : List ℕ → List ℕ → List Bool → Type 0
OpenedBytes bytes image fs = (ws : List ℕ) × (input_words bytes ≡ Ok ws) × Opened ws image fs
