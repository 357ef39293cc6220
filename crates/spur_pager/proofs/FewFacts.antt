-- A fault that was served leaves few steps, and a step few lines of a page that is leaving.
use Rattle.std.proofs.Common.{◌≡◌, ◌∙◌, ℕ, ◌*◌, ◌/◌, ◌^◌, ◌<◌, ◌≤◌, ◌==◌, ◌&&◌, ⊎_elim, Bool, true, false, not, if◌then◌else◌, ap, sym, refl, subst, [], get_or, Option, Some, None, arith}
use Rattle.std.proofs.lemmas.Bool.{eqb-true}
use Rattle.spur_addr.specs.PageEntry.{is_leaving, is_valid}
use Rattle.spur_cache.specs.declared.line.Line.{Line}
use Rattle.spur_cache.specs.Lines.{is_of_page}
use Rattle.spur_snoop.specs.declared.Need.{Need}
use Rattle.spur_flat.specs.declared.flat.Flat.{Flat}
use Rattle.spur_flat.specs.Pager.{word_of}
use Rattle.spur_bus.specs.Boards.{line_in}
use Rattle.spur_walk.specs.Bounds.{fills_left}
use Rattle.spur_walk.specs.Brought.{HadBlock, StaysInFrame}
use Rattle.spur_walk.specs.Laws.{need_of}
use Rattle.spur_walk.specs.Tables.{block_address, logical_flat}
use Rattle.spur_walk.proofs.BoundFacts.{steps-few}
use Rattle.spur_walk.proofs.LeftFacts.{found-steps, served-leaves}
use Rattle.spur_addr.specs.Address.{page_address}
use Rattle.spur_pager.specs.Few.{LeavingLinesStayFew, ServedLeavesFew}
use Rattle.spur_pager.proofs.EntryFacts.{page_again}
use Rattle.spur_pager.proofs.LineFacts.{counts, from_few}
use Rattle.spur_pager.proofs.PlaceFacts.{word_page}

pub served-leaves-few : ServedLeavesFew
served-leaves-few w v b at kind f served =
    let need : Need = need_of f.access in
    let before : 1 ≤ fills_left (get_or w.caches b []) at need = served-leaves w.caches w.memory b at need kind f.served f.answers in
    let after : fills_left (get_or v.caches b []) at need ≤ 1 = (steps-few (get_or v.caches b []) at need).found_fills served.exclusive.line served.exclusive.there in
    record { steps = found-steps (get_or v.caches b []) at need served.exclusive.line served.exclusive.there; fills = omega arith }

-- lines of a page
counts_if : (x : Bool) (n : ℕ) → (x ≡ true → 1 ≤ n) → (if x then 1 else 0) ≤ n
counts_if true n h = h refl
counts_if false n h = omega arith

one_for : (page : ℕ) (line : Line) → is_of_page page line ≡ true → 1 ≤ counts page (Some line)
one_for page line is = subst (λ (x : Bool). 1 ≤ (if x then 1 else 0)) (sym is) (omega arith)

pub leaving-lines-stay-few : LeavingLinesStayFew
leaving-lines-stay-few caches after memory page small brought gone =
    from_few 0 0 0 0 page after caches (λ (i s : ℕ). place i s (line_in after i s) refl)
  where
    one : (i s : ℕ) (line : Line) → line_in after i s ≡ Some line → is_of_page page line ≡ true → 1 ≤ counts page (line_in caches i s)
    one i s line is here =
        let F : Flat = logical_flat caches memory in
        let of_page : line.tag / 128 ≡ page = eqb-true (line.tag / 128) page here in
        let few : page < 255 * 2 ^ 18 = small in
        let low : line.tag * 2 ^ 5 < 255 * 2 ^ 30 = omega arith in
        let page_is : line.tag * 2 ^ 5 / 2 ^ 12 ≡ page = omega arith in
        let word : word_of F (block_address line.tag) ≡ word_of F (page_address page) = word_page F (block_address line.tag) (page_address page) (page_is ∙ sym (page_again page)) in
        ⊎_elim
        (λ (st : StaysInFrame caches memory (block_address line.tag)).
        let clash : true ≡ false = sym st ∙ ap (λ (w : ℕ). is_valid w && not (is_leaving w)) word ∙ gone in
        absurd (differ clash))
        (λ (was : HadBlock caches i s line).
        let same : is_of_page page was.old ≡ true = ap (λ (t : ℕ). t / 128 == page) was.tag ∙ here in
        subst (λ (o : Option Line). 1 ≤ counts page o) (sym was.there) (one_for page was.old same))
        (brought i s line is low)
      where
        differ : true ≡ false → ⊥
        differ h = cc

    place : (i s : ℕ) (o : Option Line) → line_in after i s ≡ o → counts page (line_in after i s) ≤ counts page (line_in caches i s)
    place i s None is = subst (λ (o : Option Line). counts page o ≤ counts page (line_in caches i s)) (sym is) (omega arith)
    place i s (Some line) is = subst (λ (o : Option Line). counts page o ≤ counts page (line_in caches i s)) (sym is) (counts_if (is_of_page page line) (counts page (line_in caches i s)) (one i s line is))
