-- What the tests see of caches before they call.
use Rattle.std.proofs.Common.{◌≡◌, ◌∙◌, ℕ, zero, suc, ◌+◌, ◌*◌, ◌%◌, ◌<◌, ◌≤◌, ◌==◌, ◌&&◌, ⊎_elim, not, if◌then◌else◌, Bool, true, false, ap, sym, refl, subst, get_or, List, [], ◌∷◌, length, map, replicate, slice_get, Option, Some, None, arith}
use Rattle.std.proofs.lemmas.Bool.{cases_lt, eq-eqb, eqb-true}
use Rattle.std.proofs.lemmas.List.{length-map}
use Rattle.std.proofs.lemmas.Option.{slice_get-get_or}
use Rattle.spur_addr.specs.Address.{block_of}
use Rattle.spur_cache.specs.declared.line.Line.{Line}
use Rattle.spur_snoop.specs.Size.{IsLineCount}
use Rattle.spur_cache.specs.Lines.{found, tagged, line_at, occupant}
use Rattle.spur_snoop.specs.declared.BlockState.{BlockState}
use Rattle.spur_snoop.specs.declared.BlockState.TheVariants.{Invalid}
use Rattle.spur_snoop.specs.Protocol.{is_owned}
use Rattle.spur_phys.specs.Blocks.{block_start, block_place, with_block}
use Rattle.spur_bus.specs.Boards.{line_of, line_in, line_of_block}
use Rattle.spur_bus.specs.Agrees.{Agrees, AgreesWithMemory}
use Rattle.spur_bus.specs.Calls.{HasLine, MayRead, line_tag}
use Rattle.spur_bus.specs.Fits.{fits, EachFits, AllFit, may_go}
use Rattle.spur_flat.specs.TagLines as T
use Rattle.spur_bus.proofs.BoardFacts.{lines_here}
use Rattle.spur_bus.proofs.CallFacts.{is_here}
use Rattle.spur_bus.proofs.EmptyFacts.{agrees-empty, serves-empty}
use Rattle.spur_bus.proofs.OldFacts.{owned-free}

get_within : {X : Type 0} (xs : List X) (i : ℕ) (x : X) → slice_get xs i ≡ Some x → i < length xs
get_within [] i x h = cc
get_within (y ∷ ys) zero x h = omega arith
get_within (y ∷ ys) (suc i) x h = let rest : i < length ys = get_within ys i x h in omega arith

within_of : (caches : List (List (Option Line))) (i s : ℕ) (l : Line) (o : Option (List (Option Line))) → slice_get caches i ≡ o → line_of o s ≡ Some l → i < length caches
within_of caches i s l None is there = cc
within_of caches i s l (Some lines) is there = get_within caches i lines is

line_of_board : {X : Type 0} (lines_of : X → List (Option Line)) (boards : List X) (k s : ℕ) (d : X) → k < length boards → line_in (map lines_of boards) k s ≡ line_at (lines_of (get_or boards k d)) s
line_of_board lines_of boards k s d within =
    let inside : k < length (map lines_of boards) = subst (λ (n : ℕ). k < n) (sym (length-map boards lines_of)) within in
    ap (λ (o : Option (List (Option Line))). line_of o s) (slice_get-get_or (map lines_of boards) k [] inside)
    ∙ ap (λ (ls : List (Option Line)). line_at ls s) (lines_here lines_of boards k d within)

-- one more cache whose lines fit
pub fits_more : {X : Type 0} (lines_of : X → List (Option Line)) (boards : List X) (k g frame : ℕ) (d : X) → k < length boards → EachFits (lines_of (get_or boards k d)) g frame
    → ((i slot : ℕ) (line : Line) → i < k → line_in (map lines_of boards) i slot ≡ Some line → fits g frame line ≡ true)
    → (i slot : ℕ) (line : Line) → i < k + 1 → line_in (map lines_of boards) i slot ≡ Some line → fits g frame line ≡ true
fits_more lines_of boards k g frame d within each before i slot line low there =
    ⊎_elim
    (λ (less : i < k). before i slot line less there)
    (λ (more : k ≤ i).
    let same : i ≡ k = omega arith in
    each.fit slot line (sym (line_of_board lines_of boards k slot d within) ∙ ap (λ (n : ℕ). line_in (map lines_of boards) n slot) (sym same) ∙ there))
    (cases_lt i k)

pub fits_all : {X : Type 0} (lines_of : X → List (Option Line)) (boards : List X) (k g frame : ℕ) → length boards ≤ k
    → ((i slot : ℕ) (line : Line) → i < k → line_in (map lines_of boards) i slot ≡ Some line → fits g frame line ≡ true) → AllFit (map lines_of boards) g frame
fits_all lines_of boards k g frame all before = record {
  fit = λ (i slot : ℕ) (line : Line) (there : line_in (map lines_of boards) i slot ≡ Some line).
      let inside : i < length (map lines_of boards) = within_of (map lines_of boards) i slot line (slice_get (map lines_of boards) i) refl there in
      let count : length (map lines_of boards) ≡ length boards = length-map boards lines_of in
      before i slot line (omega arith) there;
}

frame_true : (a b c : Bool) → (if a then b && c else not (b && c)) ≡ true → a ≡ true → b ≡ true
frame_true true true c h is = refl
frame_true true false c h is = cc
frame_true false b c h is = cc

tag_true : (a b c : Bool) → (if a then b && c else not (b && c)) ≡ true → b ≡ true → c ≡ true → a ≡ true
tag_true true b c h hb hc = refl
tag_true false true true h hb hc = cc
tag_true false true false h hb hc = cc
tag_true false false c h hb hc = cc

go_tag : (a b : Bool) → (not a && not b) ≡ true → (a ≡ false) × (b ≡ false)
go_tag true b h = cc
go_tag false true h = cc
go_tag false false h = (refl, refl)

go_lacks : (lines : List (Option Line)) (g : ℕ) (o : Option Line) → occupant lines g ≡ o → may_go g o ≡ true → found lines g ≡ None
go_lacks lines g None is h = ap (tagged (block_of g)) is
go_lacks lines g (Some line) is h =
    ap (tagged (block_of g)) is ∙ ap (λ (b : Bool). if b then Some line else None) (go_tag (line.tag == block_of g) (is_owned line.state) h).0

go_victim : (lines : List (Option Line)) (g : ℕ) (line : Line) → may_go g (occupant lines g) ≡ true → occupant lines g ≡ Some line → is_owned line.state ≡ false
go_victim lines g line h is = (go_tag (line.tag == block_of g) (is_owned line.state) (ap (may_go g) (sym is) ∙ h)).1

pub may-read : {X : Type 0} (lines_of : X → List (Option Line)) (boards : List X) (memory : List ℕ) (b g frame : ℕ) (d : X) → b < length boards → frame * 1024 + 1024 ≤ length memory
    → may_go g (occupant (lines_of (get_or boards b d)) g) ≡ true → AllFit (map lines_of boards) g frame → MayRead (map lines_of boards) memory b g frame
may-read lines_of boards memory b g frame d within room go all =
    let here = lines_here lines_of boards b d within in
    let goes : may_go g (occupant (get_or (map lines_of boards) b []) g) ≡ true = ap (λ (ls : List (Option Line)). may_go g (occupant ls g)) here ∙ go in
    record {
      room = room;
      lacks = go_lacks (get_or (map lines_of boards) b []) g (occupant (get_or (map lines_of boards) b []) g) refl goes;
      victim = λ (line : Line) (is : occupant (get_or (map lines_of boards) b []) g ≡ Some line). go_victim (get_or (map lines_of boards) b []) g line goes is;
      one_frame = λ (i s : ℕ) (l : Line) (there : line_in (map lines_of boards) i s ≡ Some l) (same : l.tag ≡ block_of g).
          eqb-true l.frame frame (frame_true (l.tag == block_of g) (l.frame == frame) (l.tag % 128 == block_of g % 128) (all.fit i s l there) (eq-eqb l.tag (block_of g) same));
      one_place = λ (i s : ℕ) (l : Line) (there : line_in (map lines_of boards) i s ≡ Some l) (frames : l.frame ≡ frame) (places : l.tag % 128 ≡ block_of g % 128).
          eqb-true l.tag (block_of g) (tag_true (l.tag == block_of g) (l.frame == frame) (l.tag % 128 == block_of g % 128) (all.fit i s l there)
          (eq-eqb l.frame frame frames) (eq-eqb (l.tag % 128) (block_of g % 128) places));
    }

-- a state that passes a test is that of a line
has_of : (caches : List (List (Option Line))) (b g : ℕ) (test : BlockState → Bool) (o : Option Line) → test Invalid ≡ false → line_of_block caches b g ≡ o → test (T.block_state (line_tag o)) ≡ true → HasLine caches b g test
has_of caches b g test None none is h = let clash : false ≡ true = sym none ∙ h in cc
has_of caches b g test (Some line) none is h = record { line = line; there = is; passes = h }

pub has-line : (caches : List (List (Option Line))) (b g : ℕ) (test : BlockState → Bool) → test Invalid ≡ false → test (T.block_state (line_tag (line_of_block caches b g))) ≡ true → HasLine caches b g test
has-line caches b g test none h = has_of caches b g test (line_of_block caches b g) none refl h

-- the memory's words of an owned block may go
pub cleared : (caches : List (List (Option Line))) (memory words : List ℕ) (b g : ℕ) (line : Line) → Agrees caches → AgreesWithMemory caches memory → b < length caches → line_of_block caches b g ≡ Some line → is_owned line.state ≡ true
    → AgreesWithMemory caches (with_block memory (block_place line.frame g) words)
cleared caches memory words b g line agree serves within there owned =
    let here = is_here caches b g line within there in
    subst (λ (n : ℕ). AgreesWithMemory caches (with_block memory (block_start line.frame n) words)) here.tag (owned-free caches memory words b here.slot line agree serves here.there owned)

-- three new caches
pub three : (a b c : List (Option Line)) → a ≡ replicate 16 None → b ≡ replicate 16 None → c ≡ replicate 16 None → (a ∷ b ∷ c ∷ []) ≡ replicate 3 (replicate 16 None)
three a b c ha hb hc =
    ap (λ (x : List (Option Line)). x ∷ b ∷ c ∷ []) ha ∙ ap (λ (x : List (Option Line)). replicate 16 None ∷ x ∷ c ∷ []) hb ∙ ap (λ (x : List (Option Line)). replicate 16 None ∷ replicate 16 None ∷ x ∷ []) hc

pub count_16 : IsLineCount 16
count_16 = record { exponent = 4; power = refl; some_lines = omega arith; few_lines = omega arith }

pub three_agree : (a b c : List (Option Line)) → a ≡ replicate 16 None → b ≡ replicate 16 None → c ≡ replicate 16 None → Agrees (a ∷ b ∷ c ∷ [])
three_agree a b c ha hb hc = subst (λ (cs : List (List (Option Line))). Agrees cs) (sym (three a b c ha hb hc)) (agrees-empty 3 16 (omega arith) (omega arith) count_16)

pub three_serve : (a b c : List (Option Line)) (memory : List ℕ) → a ≡ replicate 16 None → b ≡ replicate 16 None → c ≡ replicate 16 None → AgreesWithMemory (a ∷ b ∷ c ∷ []) memory
three_serve a b c memory ha hb hc = subst (λ (cs : List (List (Option Line))). AgreesWithMemory cs memory) (sym (three a b c ha hb hc)) (serves-empty 3 16 memory)
