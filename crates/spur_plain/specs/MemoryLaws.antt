-- Laws of plain memory: what is read after writing, and what a history of the plain machine leaves.
use Rattle.std.specs.Prelude.{ℕ, ◌≡◌, true, false, List, ◌∷◌, ◌++◌, Some, None, All}
use Rattle.spur_flat.specs.declared.access.AccessKind.{AccessKind}
use Rattle.spur_flat.specs.declared.entry.Entry.{Entry}
use Rattle.spur_plain.specs.PlainMemory.{AreWhole, PlainMemory, PlainPage, plain_answer, plain_page, plain_with, plain_word, same_word}
use Rattle.spur_plain.specs.PlainHistory.{IsAnswered, IsPlain, done_entries, plain_after, plain_entries, writes_word, written_by}

-- a word that is written changes no answer
abbrev pub WriteKeepsAnswers : Type 0
WriteKeepsAnswers = (M : PlainMemory) (g value h : ℕ) (access : AccessKind)
    → plain_answer (plain_with M g value) access h ≡ plain_answer M access h

-- it is read again, at each address of the word, where its page is declared
abbrev pub WrittenIsRead : Type 0
WrittenIsRead = (M : PlainMemory) (g value h : ℕ) (p : PlainPage) → AreWhole M → plain_page M g ≡ Some p
    → same_word g h ≡ true → plain_word (plain_with M g value) h ≡ value

-- and every other word stays: those of other pages, and the other ones of the same page
abbrev pub OthersStay : Type 0
OthersStay = (M : PlainMemory) (g value h : ℕ) → same_word g h ≡ false
    → plain_word (plain_with M g value) h ≡ plain_word M h

-- pages keep 1024 words
abbrev pub WriteKeepsWhole : Type 0
WriteKeepsWhole = (M : PlainMemory) (g value : ℕ) → AreWhole M → AreWhole (plain_with M g value)

-- the page of an access that is done is declared
abbrev pub DoneIsDeclared : Type 0
DoneIsDeclared = (M : PlainMemory) (access : AccessKind) (g : ℕ) → plain_answer M access g ≡ None
    → (p : PlainPage) × (plain_page M g ≡ Some p)

-- ---- histories

-- a history of the plain machine, in two pieces
abbrev pub PlainInPieces : Type 0
PlainInPieces = (M : PlainMemory) (first second : List Entry) → IsPlain M (first ++ second)
    → IsPlain M first × IsPlain (plain_after M first) second

abbrev pub PlainAfterInPieces : Type 0
PlainAfterInPieces = (M : PlainMemory) (first second : List Entry)
    → plain_after M (first ++ second) ≡ plain_after (plain_after M first) second

-- no history changes an answer, so each entry of one is answered as at its beginning
abbrev pub AnswersStay : Type 0
AnswersStay = (M : PlainMemory) (es : List Entry) (access : AccessKind) (g : ℕ)
    → plain_answer (plain_after M es) access g ≡ plain_answer M access g

abbrev pub PlainIsAnswered : Type 0
PlainIsAnswered = (M : PlainMemory) (es : List Entry) → IsPlain M es → All (IsAnswered M) es

-- a word that no entry writes stays
abbrev pub UnwrittenStays : Type 0
UnwrittenStays = (M : PlainMemory) (es : List Entry) (g : ℕ) → All (λ e. writes_word g e ≡ false) es
    → plain_word (plain_after M es) g ≡ plain_word M g

-- and one that was written is what was written last
abbrev pub LastWritten : Type 0
LastWritten = (M : PlainMemory) (es rest : List Entry) (e : Entry) (g : ℕ) → AreWhole M → IsPlain M (es ++ e ∷ rest)
    → writes_word g e ≡ true → All (λ f. writes_word g f ≡ false) rest
    → plain_word (plain_after M (es ++ e ∷ rest)) g ≡ written_by e

-- pages keep 1024 words
abbrev pub PlainStaysWhole : Type 0
PlainStaysWhole = (M : PlainMemory) (es : List Entry) → AreWhole M → AreWhole (plain_after M es)

-- the faults of a history may be left out, too: the accesses that are done are one by themselves, and lead to the same memory
pub record IsOfAccesses (M : PlainMemory) (es : List Entry) : Type 0 where
  pub plain : IsPlain M (done_entries es)
  pub ends : plain_after M es ≡ plain_after M (done_entries es)

abbrev pub FaultsLeaveMemory : Type 0
FaultsLeaveMemory = (M : PlainMemory) (es : List Entry) → IsPlain M es → IsOfAccesses M es

-- what is done in a history is done in what the plain machine knows of it
abbrev pub DoneIsPlain : Type 0
DoneIsPlain = (history : List Entry) → done_entries (plain_entries history) ≡ done_entries history
