-- Words and answers of plain memory after a history.
use Rattle.std.proofs.Common.{◌≡◌, ◌∙◌, ℕ, Bool, true, false, refl, sym, ap, cond, List, [], ◌∷◌, filter}
use Rattle.std.specs.List.{AllByRecursion}
use Rattle.std.proofs.lemmas.Bool.{false≢true}
use Rattle.std.proofs.lemmas.List.Elements.{All-from_recursion, recursion_from_All}
use Rattle.spur_flat.specs.declared.access.AccessKind.{AccessKind}
use Rattle.spur_flat.specs.declared.access.AccessKind.TheVariants as access
use Rattle.spur_flat.specs.declared.entry.Entry.{Entry}
use Rattle.spur_flat.specs.declared.entry.Entry.TheVariants.{Load, Store, Tas, Fault}
use Rattle.spur_cpu.specs.After.{is_done}
use Rattle.spur_plain.specs.PlainMemory.{AreWhole, PlainMemory, plain_answer, plain_word}
use Rattle.spur_plain.specs.PlainHistory.{HasRead, IsAnswered, IsPlain, done_entries, is_plain, plain_after, plain_on, writes_word, written_by}
use Rattle.spur_plain.specs.MemoryLaws.{AnswersStay, DoneIsPlain, FaultsLeaveMemory, IsOfAccesses, LastWritten, PlainAfterInPieces, PlainInPieces, PlainIsAnswered, PlainStaysWhole, UnwrittenStays}
use Rattle.spur_plain.proofs.MemoryFacts.{done-is-declared, others-stay, write-keeps-answers, write-keeps-whole, written-is-read}

-- ---- words

word_kept : (M : PlainMemory) (e : Entry) (g : ℕ) → writes_word g e ≡ false → plain_word (plain_on M e) g ≡ plain_word M g
word_kept M (Store board at value) g h = others-stay M at value g h
word_kept M (Tas board at old) g h = others-stay M at 1 g h
word_kept M _ g h = refl

unwritten : (M : PlainMemory) (es : List Entry) (g : ℕ) → AllByRecursion (λ (e : Entry). writes_word g e ≡ false) es → plain_word (plain_after M es) g ≡ plain_word M g
unwritten M [] g all = refl
unwritten M (e ∷ es) g all = unwritten (plain_on M e) es g all.1 ∙ word_kept M e g all.0

pub unwritten-stays : UnwrittenStays
unwritten-stays M es g all = unwritten M es g (recursion_from_All (λ (e : Entry). writes_word g e ≡ false) es all)

whole_on : (M : PlainMemory) (e : Entry) → AreWhole M → AreWhole (plain_on M e)
whole_on M (Store board at value) whole = write-keeps-whole M at value whole
whole_on M (Tas board at old) whole = write-keeps-whole M at 1 whole
whole_on M _ whole = whole

pub plain-stays-whole : PlainStaysWhole
plain-stays-whole M [] whole = whole
plain-stays-whole M (e ∷ es) whole = plain-stays-whole (plain_on M e) es (whole_on M e whole)

pub plain-after-in-pieces : PlainAfterInPieces
plain-after-in-pieces M [] second = refl
plain-after-in-pieces M (e ∷ es) second = plain-after-in-pieces (plain_on M e) es second

pub plain-in-pieces : PlainInPieces
plain-in-pieces M [] second all = (tt, all)
plain-in-pieces M (e ∷ es) second all = let both = plain-in-pieces (plain_on M e) es second all.2 in ((all.0, all.1, both.0), both.1)

word_written : (M : PlainMemory) (e : Entry) (g : ℕ) → AreWhole M → IsAnswered M e → writes_word g e ≡ true → plain_word (plain_on M e) g ≡ written_by e
word_written M (Store board at value) g whole done h = let p = done-is-declared M access.Store at done in written-is-read M at value g p.0 whole p.1 h
word_written M (Tas board at old) g whole done h = let p = done-is-declared M access.Tas at done in written-is-read M at 1 g p.0 whole p.1 h
word_written M _ g whole done h = absurd (false≢true h)

pub last-written : LastWritten
last-written M es rest e g whole plain h later =
    let N : PlainMemory = plain_after M es in
    let both = plain-in-pieces M es (e ∷ rest) plain in
    ap (λ (L : PlainMemory). plain_word L g) (plain-after-in-pieces M es (e ∷ rest))
    ∙ unwritten-stays (plain_on N e) rest g later
    ∙ word_written N e g (plain-stays-whole M es whole) both.1.0 h

-- ---- answers

abbrev SameAnswers : PlainMemory → PlainMemory → Type 0
SameAnswers M N = (access : AccessKind) (g : ℕ) → plain_answer N access g ≡ plain_answer M access g

pub answers_on : (M : PlainMemory) (e : Entry) → SameAnswers M (plain_on M e)
answers_on M (Store board at value) access g = write-keeps-answers M at value g access
answers_on M (Tas board at old) access g = write-keeps-answers M at 1 g access
answers_on M _ access g = refl

pub answers-stay : AnswersStay
answers-stay M [] access g = refl
answers-stay M (e ∷ es) access g = answers-stay (plain_on M e) es access g ∙ answers_on M e access g

moved_answer : (M N : PlainMemory) (e : Entry) → SameAnswers M N → IsAnswered N e → IsAnswered M e
moved_answer M N (Load board at value) same h = sym (same access.Load at) ∙ h
moved_answer M N (Store board at value) same h = sym (same access.Store at) ∙ h
moved_answer M N (Tas board at old) same h = sym (same access.Tas at) ∙ h
moved_answer M N (Fault board kind access at) same h = sym (same access at) ∙ h
moved_answer M N _ same h = absurd h

pub moved_answers : (M N : PlainMemory) (es : List Entry) → SameAnswers M N → AllByRecursion (IsAnswered N) es → AllByRecursion (IsAnswered M) es
moved_answers M N [] same h = tt
moved_answers M N (e ∷ es) same h = (moved_answer M N e same h.0, moved_answers M N es same h.1)

answered_all : (M : PlainMemory) (es : List Entry) → IsPlain M es → AllByRecursion (IsAnswered M) es
answered_all M [] plain = tt
answered_all M (e ∷ es) plain = (plain.0, moved_answers M (plain_on M e) es (answers_on M e) (answered_all (plain_on M e) es plain.2))

pub plain-is-answered : PlainIsAnswered
plain-is-answered M es plain = All-from_recursion (IsAnswered M) es (answered_all M es plain)

-- ---- faults leave plain memory

leave_in : (b : Bool) (M : PlainMemory) (e : Entry) (es : List Entry) → is_done e ≡ b → IsAnswered M e → HasRead M e → IsOfAccesses (plain_on M e) es
    → IsPlain M (cond b (e ∷ done_entries es) (done_entries es)) × (plain_after (plain_on M e) es ≡ plain_after M (cond b (e ∷ done_entries es) (done_entries es)))
leave_in true M e es is this read later = ((this, read, later.plain), later.ends)
leave_in false M (Fault board kind access at) es is this read later = (later.plain, later.ends)
leave_in false M (Load board at value) es is this read later = absurd cc
leave_in false M (Store board at value) es is this read later = absurd cc
leave_in false M (Tas board at old) es is this read later = absurd cc
leave_in false M e es is this read later = absurd this

pub faults-leave-memory : FaultsLeaveMemory
faults-leave-memory M [] plain = record { plain = tt; ends = refl }
faults-leave-memory M (e ∷ es) plain =
    let both = leave_in (is_done e) M e es refl plain.0 plain.1 (faults-leave-memory (plain_on M e) es plain.2) in
    record { plain = both.0; ends = both.1 }

-- ---- what is done is plain

pub done_is_plain : (e : Entry) → is_done e ≡ true → is_plain e ≡ true
done_is_plain (Load board at value) h = refl
done_is_plain (Store board at value) h = refl
done_is_plain (Tas board at old) h = refl
done_is_plain (Fault board kind access at) h = absurd (false≢true h)
done_is_plain e h = absurd (false≢true h)

-- what passes the one test passes the other
within_step : (p q : Entry → Bool) (e : Entry) (es : List Entry) (a b : Bool) → p e ≡ a → q e ≡ b → (a ≡ true → b ≡ true) → filter p (filter q es) ≡ filter p es
    → filter p (cond b (e ∷ filter q es) (filter q es)) ≡ cond a (e ∷ filter p es) (filter p es)
within_step p q e es a true x y so rest = ap (λ (c : Bool). cond c (e ∷ filter p (filter q es)) (filter p (filter q es))) x ∙ ap (λ (xs : List Entry). cond a (e ∷ xs) xs) rest
within_step p q e es true false x y so rest = absurd (false≢true (so refl))
within_step p q e es false false x y so rest = rest

within : (p q : Entry → Bool) → ((e : Entry) → p e ≡ true → q e ≡ true) → (es : List Entry) → filter p (filter q es) ≡ filter p es
within p q so [] = refl
within p q so (e ∷ es) = within_step p q e es (p e) (q e) refl refl (so e) (within p q so es)

pub done-is-plain : DoneIsPlain
done-is-plain history = within is_done is_plain done_is_plain history
