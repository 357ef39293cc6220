-- Where the lines of a page stand.
use Rattle.std.proofs.Common.{◌≡◌, ◌≢◌, ℕ, zero, suc, ◌+◌, ◌-◌, ◌*◌, ◌<◌, ◌≤◌, ◌/◌, ◌%◌, ◌^◌, ⊎_elim, Bool, if◌then◌else◌, List, [], ◌∷◌, length, drop, Option, Some, None, refl, sym, ap, ◌∙◌, subst, arith, add-zero, zero-add}
use Rattle.std.proofs.lemmas.Bool.{cases_lt, ne_eqb}
use Rattle.std.proofs.lemmas.Nat.{pow_below, mod-pow-add, mod_below, pow-add, pow_pos}
use Rattle.spur_cache.specs.declared.line.Line.{Line}
use Rattle.spur_cache.specs.Lines.{IsCache, IsSpan, line_at, page_lines_from}

-- an exponent of more lines than the blocks of a page
past_seven : (e : ℕ) → 128 < 2 ^ e → 7 ≤ e
past_seven e more = ⊎_elim (λ (low : e < 7). let b : 2 ^ e < 2 ^ 7 = pow_below e 7 low in omega arith) (λ (high : 7 ≤ e). high) (cases_lt e 7)

-- a block's place, where there are more lines than blocks of a page: by that of its page's first block
place_of_block : (tag n e : ℕ) → n ≡ 2 ^ e → 7 ≤ e → tag % n ≡ (tag / 128) % 2 ^ (e - 7) * 128 + tag % 128
place_of_block tag n e is high =
    let split : (e - 7) + 7 ≡ e = omega arith in
    ap (λ (m : ℕ). tag % m) is ∙ ap (λ (k : ℕ). tag % 2 ^ k) (sym split) ∙ mod-pow-add tag (e - 7) 7

-- the places of a page's blocks, where there are more lines than those
pub wide_span : (lines : List (Option Line)) (page start : ℕ) → IsCache lines → 128 < length lines → start ≡ page * 128 % length lines → IsSpan lines page start (start + 128)
wide_span lines page start cache more is =
    let n : ℕ = length lines in
    let e : ℕ = cache.count.exponent in
    let power : n ≡ 2 ^ e = cache.count.power in
    let bits : 128 < 2 ^ e = subst (λ (m : ℕ). 128 < m) power more in
    let high : 7 ≤ e = past_seven e bits in
    let m : ℕ = 2 ^ (e - 7) in
    let first : page * 128 / 128 ≡ page = omega arith in
    let rest : page * 128 % 128 ≡ 0 = omega arith in
    let row : ℕ = page % m in
    let begins : start ≡ row * 128 =
    is ∙ place_of_block (page * 128) n e power high
    ∙ ap (λ (p : ℕ). p % m * 128 + page * 128 % 128) first
    ∙ ap (λ (r : ℕ). row * 128 + r) rest ∙ (omega arith) in
    let below : row < m = mod_below page m (pow_pos (e - 7)) in
    let split : (e - 7) + 7 ≡ e = omega arith in
    let size : n ≡ m * 128 = power ∙ ap (λ (k : ℕ). 2 ^ k) (sym split) ∙ pow-add 2 (e - 7) 7 in
    record {
      ordered = omega arith;
      short = omega arith;
      within = omega arith;
      inside = λ slot line there of_page.
          let stands : slot ≡ row * 128 + line.tag % 128 =
          sym (cache.placed slot line there) ∙ place_of_block line.tag n e power high ∙ ap (λ (p : ℕ). p % m * 128 + line.tag % 128) of_page in
          let low : line.tag % 128 < 128 = mod_below line.tag 128 (omega arith) in
          (omega arith, omega arith);
    }

-- what stands at a place of the rest
line_at-drop : (lines : List (Option Line)) (from i : ℕ) → line_at (drop from lines) i ≡ line_at lines (from + i)
line_at-drop lines zero i = ap (line_at lines) (sym (zero-add i))
line_at-drop [] (suc from) i = refl
line_at-drop (x ∷ xs) (suc from) i =
    let e : suc from + i ≡ suc (from + i) = omega arith in
    line_at-drop xs from i ∙ sym (ap (line_at (x ∷ xs)) e)

passed_over : (page k : ℕ) (x : Option Line) (xs : List (Option Line)) → ((line : Line) → x ≡ Some line → line.tag / 128 ≢ page)
    → page_lines_from page k (x ∷ xs) ≡ page_lines_from page (k + 1) xs
passed_over page k None xs apart = refl
passed_over page k (Some line) xs apart =
    ap (λ (b : Bool). if b then k ∷ page_lines_from page (k + 1) xs else page_lines_from page (k + 1) xs) (ne_eqb (line.tag / 128) page (apart line refl))

-- no line of a page
pub none_of_page : (page k : ℕ) (lines : List (Option Line)) → ((i : ℕ) (line : Line) → line_at lines i ≡ Some line → line.tag / 128 ≢ page)
    → page_lines_from page k lines ≡ []
none_of_page page k [] apart = refl
none_of_page page k (x ∷ xs) apart =
    passed_over page k x xs (λ line is. apart zero line is)
    ∙ none_of_page page (k + 1) xs (λ i line is. apart (suc i) line is)

-- no line of a page before a place
pub skipped : (page k from : ℕ) (lines : List (Option Line)) → ((i : ℕ) (line : Line) → i < from → line_at lines i ≡ Some line → line.tag / 128 ≢ page)
    → from ≤ length lines → page_lines_from page k lines ≡ page_lines_from page (k + from) (drop from lines)
skipped page k zero lines apart within = ap (λ (n : ℕ). page_lines_from page n lines) (sym (add-zero k))
skipped page k (suc from) [] apart within = absurd (omega arith)
skipped page k (suc from) (x ∷ xs) apart within =
    let e : (k + 1) + from ≡ k + suc from = omega arith in
    passed_over page k x xs (λ line is. apart zero line (omega arith) is)
    ∙ skipped page (k + 1) from xs (λ i line below is. apart (suc i) line (omega arith) is) (omega arith)
    ∙ ap (λ (n : ℕ). page_lines_from page n (drop from xs)) e

-- the lines of a page are those from the start of its span on
pub before_span : (lines : List (Option Line)) (page start end : ℕ) → IsSpan lines page start end
    → page_lines_from page start (drop start lines) ≡ page_lines_from page 0 lines
before_span lines page start end span =
    let ordered = span.ordered in
    let within = span.within in
    sym (skipped page 0 start lines
    (λ i line below there of_page. let inside : (start ≤ i) × (i < end) = span.inside i line there of_page in let low : start ≤ i = inside.0 in omega arith)
    (omega arith)
    ∙ ap (λ (n : ℕ). page_lines_from page n (drop start lines)) (zero-add start))

-- and there are none from its end on
pub after_span : (lines : List (Option Line)) (page start end from : ℕ) → IsSpan lines page start end → end ≤ from
    → page_lines_from page from (drop from lines) ≡ []
after_span lines page start end from span past =
    none_of_page page from (drop from lines) (λ i line there of_page.
    let inside : (start ≤ from + i) × (from + i < end) = span.inside (from + i) line (sym (line_at-drop lines from i) ∙ there) of_page in
    let low : from + i < end = inside.1 in
    omega arith)
