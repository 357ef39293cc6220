-- What is known after one entry more.
use Rattle.std.proofs.Common.{◌≡◌, ℕ, ◌+◌, ◌<◌, List, [], ◌∷◌, Option, Some, None, refl, sym, ap, ◌∙◌, length, replicate, zero, suc, subst, drop, get_or, arith}
use Rattle.std.specs.Prelude.{Ok, Err}
use Rattle.std.proofs.lemmas.List.{drop_more, length-replicate}
use Rattle.spur_flat.specs.declared.illegal.Illegal.{Illegal}
use Rattle.spur_flat.specs.declared.entry.Entry.{Entry}
use Rattle.spur_flat.specs.declared.entry.Entry.TheVariants.{BlockFlush}
use Rattle.spur_flat.specs.Blocks.{IsOfBoards, board_of}
use Rattle.spur_flat.specs.Refused.{or_else, result_of}
use Rattle.spur_cpu.specs.Plain.{plain}
use Rattle.spur_cpu.specs.Plain.{Plain}
use Rattle.spur_cpu.specs.Meaning.{Meaning}
use Rattle.spur_flat.specs.History.{on}
use Rattle.spur_flat.specs.Needed.{numbers_on, open_on}
use Rattle.spur_flat.specs.TagLines.{no_tags, tags_on}
use Rattle.spur_flat.specs.Validity.{IsValidFlat}
use Rattle.spur_loader.specs.declared.opening.Opening.{Opening}
use Rattle.spur_check.specs.declared.verdict.Verdict.TheVariants.{Bad}
use Rattle.spur_check.specs.declared.checker.Checker.{Checker}
use Rattle.spur_loader.specs.Opening.{board_count}
use Rattle.spur_check.specs.Judged.{MayBeJudged, Progress, entry_refusal, first_progress, first_replays, judged, judged_from, progress_on, verdict_or}
use Rattle.spur_check.specs.Replays.{replays_on}
use Rattle.spur_check.proofs.Begins.{length_first}
use Rattle.spur_check.specs.Numbered.{Numbered, entries_of, none_open, numbers_of}
use Rattle.spur_check.specs.Kept.{IsJudged, IsNoted, IsSound, progress_of}

-- an entry's board is there
pub board_there : (boards : ℕ) (entry : Entry) → IsOfBoards boards entry → board_of entry < boards
board_there boards (BlockFlush board holder at) h = h.0
board_there boards entry h = h

-- a refusal behind two rules that refuse nothing
pub behind : (p a b n : Option Illegal) → result_of p ≡ Ok tt → result_of (or_else a b) ≡ Ok tt → result_of n ≡ result_of (or_else p (or_else a (or_else b n)))
behind None None None n h k = refl
behind None None (Some why) n h k = absurd cc
behind None (Some why) b n h k = absurd cc
behind (Some why) a b n h k = absurd cc

-- each of as many lists that have nothing open
pub entries_none : (n : ℕ) → entries_of (replicate n none_open) ≡ replicate n []
entries_none zero = refl
entries_none (suc n) = ap (λ (xs : List (List Entry)). [] ∷ xs) (entries_none n)

pub numbers_none : (n : ℕ) → numbers_of (replicate n none_open) ≡ replicate n []
numbers_none zero = refl
numbers_none (suc n) = ap (λ (xs : List (List ℕ)). [] ∷ xs) (numbers_none n)

-- what is known at an opening, by its parts
pub at_opening : (opening : Opening) (c : Checker) → c.flat ≡ opening.flat → c.tags ≡ no_tags (board_count opening) opening.options.lines
    → c.lists.items ≡ replicate (board_count opening) none_open
    → c.replays.items ≡ first_replays opening.options.budget opening.segs opening.code → c.lines ≡ opening.options.lines
    → progress_of 0 c ≡ first_progress opening
at_opening opening c flat tags lists replays lines =
    let opened : entries_of c.lists.items ≡ replicate (board_count opening) [] = ap entries_of lists ∙ entries_none (board_count opening) in
    let numbers : numbers_of c.lists.items ≡ replicate (board_count opening) [] = ap numbers_of lists ∙ numbers_none (board_count opening) in
    cc

-- and it is of the opening's boards
pub sound_at_opening : (opening : Opening) (c : Checker) → MayBeJudged opening → c.flat ≡ opening.flat → c.tags ≡ no_tags (board_count opening) opening.options.lines
    → c.lists.items ≡ replicate (board_count opening) none_open
    → c.replays.items ≡ first_replays opening.options.budget opening.segs opening.code → c.lines ≡ opening.options.lines
    → IsSound (board_count opening) c
sound_at_opening opening c may flat tags lists replays lines = record {
  valid = subst IsValidFlat (sym flat) may.valid;
  tags = ap length tags ∙ length-replicate (board_count opening) (replicate opening.options.lines None);
  lists = ap length lists ∙ length-replicate (board_count opening) none_open;
  replays = ap length replays ∙ length_first opening.options.budget opening.segs opening.code may.codes;
  lines = (let some = may.options.lines.some_lines in omega arith);
}

-- an entry that was judged and noted leads to what is known after it
pub moves : (k : ℕ) (old mid new : Checker) (entry : Entry) → IsJudged old entry mid → IsNoted mid entry (k + 1) new → progress_of (k + 1) new ≡ progress_on plain (progress_of k old) entry
moves k old mid new entry j n =
    let flat : new.flat ≡ on old.flat entry = n.flat ∙ j.flat in
    let tags : new.tags ≡ tags_on old.flat old.tags entry = n.tags ∙ j.tags in
    let opened : entries_of new.lists.items ≡ open_on (entries_of old.lists.items) entry = n.entries ∙ ap (λ (xs : List Numbered). open_on (entries_of xs) entry) j.lists in
    let numbers : numbers_of new.lists.items ≡ numbers_on (numbers_of old.lists.items) (k + 1) entry = n.numbers ∙ ap (λ (xs : List Numbered). numbers_on (numbers_of xs) (k + 1) entry) j.lists in
    let replays : new.replays.items ≡ replays_on plain old.replays.items entry = n.replays ∙ j.replays in
    let lines : new.lines ≡ old.lines = n.lines ∙ j.lines in
    cc

pub stays_sound : (boards k : ℕ) (old mid new : Checker) (entry : Entry) → IsSound boards old → IsJudged old entry mid → IsNoted mid entry k new → IsSound boards new
stays_sound boards k old mid new entry s j n =
    let m = j.sound in
    record {
      valid = subst IsValidFlat (sym n.flat) m.valid;
      tags = ap length n.tags ∙ m.tags ∙ s.replays;
      lists = n.boards ∙ m.lists ∙ s.replays;
      replays = ap length n.replays ∙ m.replays ∙ s.replays;
      lines = subst (λ (x : ℕ). 0 < x) (sym n.lines) m.lines;
    }

-- an entry that is refused is the first
pub refused_now : {S : Type 0} (m : Meaning S) (p : Progress S) (entry : Entry) (rest : List Entry) (why : Illegal) → result_of (entry_refusal m p entry) ≡ Err why
    → judged_from m p (entry ∷ rest) ≡ Bad (p.count + 1) why.clause why.wanted why.found
refused_now m p entry rest why h = by_refusal (entry_refusal m p entry) h where
  by_refusal : (o : Option Illegal) → result_of o ≡ Err why → verdict_or o (p.count + 1) (judged_from m (progress_on m p entry) rest) ≡ Bad (p.count + 1) why.clause why.wanted why.found
  by_refusal None e = absurd cc
  by_refusal (Some is) e = let same : is ≡ why = cc in ap (λ (x : Illegal). Bad (p.count + 1) x.clause x.wanted x.found) same

-- and one that is not refused is passed
pub passed_now : {S : Type 0} (m : Meaning S) (p : Progress S) (entry : Entry) (rest : List Entry) → result_of (entry_refusal m p entry) ≡ Ok tt
    → judged_from m p (entry ∷ rest) ≡ judged_from m (progress_on m p entry) rest
passed_now m p entry rest h = by_refusal (entry_refusal m p entry) h where
  by_refusal : (o : Option Illegal) → result_of o ≡ Ok tt → verdict_or o (p.count + 1) (judged_from m (progress_on m p entry) rest) ≡ judged_from m (progress_on m p entry) rest
  by_refusal None e = refl
  by_refusal (Some is) e = absurd cc

-- the code has come to entry k: it knows what is known there, and the rest is judged from there
pub record HasCome (opening : Opening) (es : List Entry) (k : ℕ) (c : Checker) : Type 0 where
  pub sound : IsSound (board_count opening) c
  pub same : judged opening es ≡ judged_from plain (progress_of k c) (drop k es)

pub rest_is : (es : List Entry) (k : ℕ) (e : Entry) → k < length es → e ≡ get_or es k e → drop k es ≡ e ∷ drop (k + 1) es
rest_is es k e there is = drop_more es k e there ∙ ap (λ (x : Entry). x ∷ drop (k + 1) es) (sym is)

pub refused_there : (opening : Opening) (es : List Entry) (k : ℕ) (c : Checker) (e : Entry) (why : Illegal) → HasCome opening es k c
    → drop k es ≡ e ∷ drop (k + 1) es → result_of (entry_refusal plain (progress_of k c) e) ≡ Err why
    → judged opening es ≡ Bad (k + 1) why.clause why.wanted why.found
refused_there opening es k c e why h rest refused =
    h.same ∙ ap (judged_from plain (progress_of k c)) rest ∙ refused_now plain (progress_of k c) e (drop (k + 1) es) why refused

pub come_further : (opening : Opening) (es : List Entry) (k : ℕ) (old mid new : Checker) (e : Entry) → HasCome opening es k old
    → drop k es ≡ e ∷ drop (k + 1) es → result_of (entry_refusal plain (progress_of k old) e) ≡ Ok tt
    → IsJudged old e mid → IsNoted mid e (k + 1) new → HasCome opening es (k + 1) new
come_further opening es k old mid new e h rest passed j n = record {
  sound = stays_sound (board_count opening) (k + 1) old mid new e h.sound j n;
  same = h.same ∙ ap (judged_from plain (progress_of k old)) rest ∙ passed_now plain (progress_of k old) e (drop (k + 1) es) passed
      ∙ sym (ap (λ (p : Progress Plain). judged_from plain p (drop (k + 1) es)) (moves k old mid new e j n));
}
