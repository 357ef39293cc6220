-- What the open entries of a board answer.
use Rattle.std.proofs.Common.{◌≡◌, ℕ, List, [], Some, sym, ap, ◌∙◌}
use Rattle.std.specs.Prelude.{OnOk, Result, Ok, Err, slice_get, slice_set, option_map}
use Rattle.std.proofs.lemmas.Option.{slice_get-map, get_or_from_slice_get}
use Rattle.std.proofs.lemmas.List.{map-set}
use Rattle.spur_flat.specs.declared.illegal.Illegal.{Illegal}
use Rattle.spur_flat.specs.declared.entry.Entry.{Entry}
use Rattle.spur_flat.specs.Refused.{result_of}
use Rattle.spur_flat.specs.Blocks.{Role, Serves, board_of, role_of}
use Rattle.spur_flat.specs.Needed.{lack_in, lack_of, needed_refusal, numbers_at, numbers_in, numbers_on, open_at, open_in, open_on}
use Rattle.spur_check.specs.Numbered.{Numbered, entries_of, idle_refusal, noted, numbers_of}

abbrev pub answer : ℕ → Numbered → Role → Result (Unit {0}) Illegal
answer lines x role = result_of (idle_refusal lines x role)

pub served : (lines : ℕ) (x : Numbered) (bs cs : List ℕ) (a b : ℕ) → bs ≡ cs → a ≡ b → answer lines x (Serves bs (Some a)) ≡ answer lines x (Serves cs (Some b))
served lines x bs cs a b is same = ap (λ (ds : List ℕ). answer lines x (Serves ds (Some a))) is ∙ ap (λ (n : ℕ). answer lines x (Serves cs (Some n))) same

entries_read : (xs : List Numbered) (b : ℕ) (x : Numbered) → slice_get xs b ≡ Some x → open_at (entries_of xs) b ≡ x.entries
entries_read xs b x h = get_or_from_slice_get (entries_of xs) b x.entries [] (slice_get-map (λ (o : Numbered). o.entries) xs b ∙ ap (option_map (λ (o : Numbered). o.entries)) h)

numbers_read : (xs : List Numbered) (b : ℕ) (x : Numbered) → slice_get xs b ≡ Some x → numbers_at (numbers_of xs) b ≡ x.numbers
numbers_read xs b x h = get_or_from_slice_get (numbers_of xs) b x.numbers [] (slice_get-map (λ (o : Numbered). o.numbers) xs b ∙ ap (option_map (λ (o : Numbered). o.numbers)) h)

pub answer_read : (xs : List Numbered) (lines : ℕ) (entry : Entry) (x : Numbered) → slice_get xs (board_of entry) ≡ Some x
    → answer lines x (role_of entry) ≡ result_of (needed_refusal (numbers_at (numbers_of xs) (board_of entry)) (lack_of lines (entries_of xs) entry))
answer_read xs lines entry x h =
    sym (ap (λ (es : List Entry). result_of (needed_refusal x.numbers (lack_in lines es (role_of entry)))) (entries_read xs (board_of entry) x h))
    ∙ sym (ap (λ (ns : List ℕ). result_of (needed_refusal ns (lack_of lines (entries_of xs) entry))) (numbers_read xs (board_of entry) x h))

pub entries_noted : (xs : List Numbered) (entry : Entry) (number : ℕ) (x y : Numbered) → slice_get xs (board_of entry) ≡ Some x → y ≡ noted x entry number
    → entries_of (slice_set xs (board_of entry) y) ≡ open_on (entries_of xs) entry
entries_noted xs entry number x y h is =
    map-set (λ (o : Numbered). o.entries) xs (board_of entry) y
    ∙ ap (λ (o : Numbered). slice_set (entries_of xs) (board_of entry) o.entries) is
    ∙ sym (ap (λ (es : List Entry). slice_set (entries_of xs) (board_of entry) (open_in es entry (role_of entry))) (entries_read xs (board_of entry) x h))

pub numbers_noted : (xs : List Numbered) (entry : Entry) (number : ℕ) (x y : Numbered) → slice_get xs (board_of entry) ≡ Some x → y ≡ noted x entry number
    → numbers_of (slice_set xs (board_of entry) y) ≡ numbers_on (numbers_of xs) number entry
numbers_noted xs entry number x y h is =
    map-set (λ (o : Numbered). o.numbers) xs (board_of entry) y
    ∙ ap (λ (o : Numbered). slice_set (numbers_of xs) (board_of entry) o.numbers) is
    ∙ sym (ap (λ (ns : List ℕ). slice_set (numbers_of xs) (board_of entry) (numbers_in ns number (role_of entry))) (numbers_read xs (board_of entry) x h))

-- what holds where a call succeeds, where something else does
pub at_ok : {X E P Q : Type 0} (r : Result X E) → OnOk r P → (P → Q) → OnOk r Q
at_ok (Ok x) p f = f p
at_ok (Err e) p f = p
