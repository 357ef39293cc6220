-- Where the lines after a transaction come from, and what those before it become.
use Rattle.std.proofs.Common.{◌≡◌, ◌≢◌, ℕ, ◌==◌, ◌⊎◌, ⊎_elim, Bool, true, false, if◌then◌else◌, List, slice_get, slice_set, Option, Some, None, refl, sym, ap, ◌∙◌, zero-add}
use Rattle.std.specs.Option.{option_map}
use Rattle.std.proofs.lemmas.Bool.{cases_eq, eq-eqb, eqb-true, ne_eqb}
use Rattle.spur_addr.specs.Address.{block_of}
use Rattle.spur_cache.specs.declared.line.Line.{Line}
use Rattle.spur_cache.specs.Lines.{found, line_at, index_of}
use Rattle.spur_snoop.specs.declared.BlockState.{BlockState}
use Rattle.spur_snoop.specs.declared.BlockState.TheVariants.{Invalid}
use Rattle.spur_snoop.specs.declared.BusKind.{BusKind}
use Rattle.spur_snoop.specs.Protocol.{snooped_of}
use Rattle.spur_bus.specs.Boards.{line_of, line_in, snooped_lines, turned_lines, turned}
use Rattle.spur_bus.specs.Agrees.{Agrees}
use Rattle.spur_bus.proofs.Turn.{CameFrom, state_after}
use Rattle.spur_bus.proofs.EachFacts.{slice_get-each}
use Rattle.spur_bus.proofs.LineFacts.{set_away, set_hit, some_same, told_apart, told_block, told_origin}

-- a cache after a transaction, by its number
pub line-turned : (caches : List (List (Option Line))) (own at : ℕ) (kind : BusKind) (fresh : Line) (i s : ℕ)
    → line_in (turned caches own at kind fresh) i s ≡ line_of (option_map (turned_lines own at kind fresh i) (slice_get caches i)) s
line-turned caches own at kind fresh i s =
    ap (λ (o : Option (List (Option Line))). line_of o s)
    (slice_get-each (turned_lines own at kind fresh) 0 caches i ∙ ap (λ (n : ℕ). option_map (turned_lines own at kind fresh n) (slice_get caches i)) (zero-add i))

pub read_mine : (own at : ℕ) (kind : BusKind) (fresh : Line) (i : ℕ) (lines : List (Option Line)) → i ≡ own → turned_lines own at kind fresh i lines ≡ slice_set lines (index_of lines fresh.tag) (Some fresh)
read_mine own at kind fresh i lines is = ap (λ (b : Bool). if b then slice_set lines (index_of lines fresh.tag) (Some fresh) else snooped_lines lines at kind) (eq-eqb i own is)

pub read_other : (own at : ℕ) (kind : BusKind) (fresh : Line) (i : ℕ) (lines : List (Option Line)) → i ≢ own → turned_lines own at kind fresh i lines ≡ snooped_lines lines at kind
read_other own at kind fresh i lines apart = ap (λ (b : Bool). if b then slice_set lines (index_of lines fresh.tag) (Some fresh) else snooped_lines lines at kind) (ne_eqb i own apart)

-- a line after a transaction: the new one, one of the same cache that is of another block, or one that another cache had
pub data From (caches : List (List (Option Line))) (own block : ℕ) (kind : BusKind) (fresh : Line) (i s : ℕ) (l : Line) : Type 0 where
  Fresh : i ≡ own → l ≡ fresh → From caches own block kind fresh i s l
  Mine : i ≡ own → l.tag ≢ block → line_in caches i s ≡ Some l → From caches own block kind fresh i s l
  Other : (old : Line) → i ≢ own → line_in caches i s ≡ Some old → CameFrom block kind old l → From caches own block kind fresh i s l

from_in : (caches : List (List (Option Line))) (own at : ℕ) (kind : BusKind) (fresh : Line) (i s : ℕ) (l : Line) (o : Option (List (Option Line)))
    → Agrees caches → fresh.tag ≡ block_of at → slice_get caches i ≡ o → line_of (option_map (turned_lines own at kind fresh i) o) s ≡ Some l → From caches own (block_of at) kind fresh i s l
from_in caches own at kind fresh i s l None agree tag is h = cc
from_in caches own at kind fresh i s l (Some lines) agree tag is h =
    let slot : ℕ = index_of lines fresh.tag in
    ⊎_elim
    (λ (e : i ≡ own).
    let mine : line_at (slice_set lines slot (Some fresh)) s ≡ Some l = sym (ap (λ (ls : List (Option Line)). line_at ls s) (read_mine own at kind fresh i lines e)) ∙ h in
    ⊎_elim
    (λ (f : s ≡ slot).
    let hit : Some fresh ≡ Some l = set_hit lines slot (Some fresh) l (ap (line_at (slice_set lines slot (Some fresh))) (sym f) ∙ mine) in
    Fresh e (sym (some_same fresh l hit)))
    (λ (f : s ≢ slot).
    let kept : line_at lines s ≡ Some l = sym (set_away lines slot s (Some fresh) f) ∙ mine in
    Mine e
    (λ (same : l.tag ≡ block_of at). f (sym ((agree.each i lines is).placed s l kept) ∙ ap (index_of lines) (same ∙ sym tag)))
    (ap (λ (o : Option (List (Option Line))). line_of o s) is ∙ kept))
    (cases_eq s slot))
    (λ (apart : i ≢ own).
    let heard : line_at (snooped_lines lines at kind) s ≡ Some l = sym (ap (λ (ls : List (Option Line)). line_at ls s) (read_other own at kind fresh i lines apart)) ∙ h in
    let origin = told_origin lines at kind s l (agree.each i lines is) heard in
    Other origin.old apart (ap (λ (o : Option (List (Option Line))). line_of o s) is ∙ origin.stood) origin.came)
    (cases_eq i own)

pub from : (caches : List (List (Option Line))) (own at : ℕ) (kind : BusKind) (fresh : Line) (i s : ℕ) (l : Line)
    → Agrees caches → fresh.tag ≡ block_of at → line_in (turned caches own at kind fresh) i s ≡ Some l → From caches own (block_of at) kind fresh i s l
from caches own at kind fresh i s l agree tag h =
    from_in caches own at kind fresh i s l (slice_get caches i) agree tag refl (sym (line-turned caches own at kind fresh i s) ∙ h)

-- the other way: what a line before it becomes
pub record Stays (caches news : List (List (Option Line))) (i s : ℕ) (state : BlockState) (l : Line) : Type 0 where
  pub new : Line
  pub there : line_in news i s ≡ Some new
  pub tag : new.tag ≡ l.tag
  pub frame : new.frame ≡ l.frame
  pub words : new.words ≡ l.words
  pub is_state : new.state ≡ state

other_in : (caches : List (List (Option Line))) (own at : ℕ) (kind : BusKind) (fresh : Line) (i s : ℕ) (l : Line) (o : Option (List (Option Line)))
    → Agrees caches → slice_get caches i ≡ o → line_of o s ≡ Some l → i ≢ own → (l.tag ≢ block_of at) ⊎ (snooped_of l.state kind ≢ Invalid) → (b : Bool) → (l.tag == block_of at) ≡ b
    → Stays caches (turned caches own at kind fresh) i s (if b then snooped_of l.state kind else l.state) l
other_in caches own at kind fresh i s l None agree is there apart stays b test = cc
other_in caches own at kind fresh i s l (Some lines) agree is there apart stays false test =
    let other : l.tag ≢ block_of at = λ (e : l.tag ≡ block_of at). let clash : true ≡ false = sym (eq-eqb l.tag (block_of at) e) ∙ test in cc in
    record {
      new = l;
      there = line-turned caches own at kind fresh i s ∙ ap (λ (o : Option (List (Option Line))). line_of (option_map (turned_lines own at kind fresh i) o) s) is
          ∙ ap (λ (ls : List (Option Line)). line_at ls s) (read_other own at kind fresh i lines apart)
          ∙ told_apart lines at kind s l (found lines at) refl there other;
      tag = refl;
      frame = refl;
      words = refl;
      is_state = refl;
    }
other_in caches own at kind fresh i s l (Some lines) agree is there apart stays true test =
    let same : l.tag ≡ block_of at = eqb-true l.tag (block_of at) test in
    let alive : snooped_of l.state kind ≢ Invalid = ⊎_elim (λ (un : l.tag ≢ block_of at). absurd (un same)) (λ (live : snooped_of l.state kind ≢ Invalid). live) stays in
    record {
      new = record l { state = snooped_of l.state kind };
      there = line-turned caches own at kind fresh i s ∙ ap (λ (o : Option (List (Option Line))). line_of (option_map (turned_lines own at kind fresh i) o) s) is
          ∙ ap (λ (ls : List (Option Line)). line_at ls s) (read_other own at kind fresh i lines apart)
          ∙ told_block lines at kind s l (agree.each i lines is) there same alive;
      tag = refl;
      frame = refl;
      words = refl;
      is_state = refl;
    }

-- another cache's line stays, in the state that the table says, unless that is Invalid
pub other_stays : (caches : List (List (Option Line))) (own at : ℕ) (kind : BusKind) (fresh : Line) (i s : ℕ) (l : Line)
    → Agrees caches → line_in caches i s ≡ Some l → i ≢ own → (l.tag ≢ block_of at) ⊎ (snooped_of l.state kind ≢ Invalid)
    → Stays caches (turned caches own at kind fresh) i s (state_after (block_of at) kind l) l
other_stays caches own at kind fresh i s l agree there apart stays =
    other_in caches own at kind fresh i s l (slice_get caches i) agree refl there apart stays (l.tag == block_of at) refl

mine_in : (caches : List (List (Option Line))) (own at : ℕ) (kind : BusKind) (fresh : Line) (s : ℕ) (l : Line) (o : Option (List (Option Line)))
    → slice_get caches own ≡ o → line_of o s ≡ Some l → ((lines : List (Option Line)) → o ≡ Some lines → s ≢ index_of lines fresh.tag) → line_in (turned caches own at kind fresh) own s ≡ Some l
mine_in caches own at kind fresh s l None is there away = cc
mine_in caches own at kind fresh s l (Some lines) is there away =
    line-turned caches own at kind fresh own s ∙ ap (λ (o : Option (List (Option Line))). line_of (option_map (turned_lines own at kind fresh own) o) s) is
    ∙ ap (λ (ls : List (Option Line)). line_at ls s) (read_mine own at kind fresh own lines refl)
    ∙ set_away lines (index_of lines fresh.tag) s (Some fresh) (away lines refl) ∙ there

-- a line of the same cache stays, unless the new one is put on its place
pub mine_stays : (caches : List (List (Option Line))) (own at : ℕ) (kind : BusKind) (fresh : Line) (s : ℕ) (l : Line)
    → line_in caches own s ≡ Some l → ((lines : List (Option Line)) → slice_get caches own ≡ Some lines → s ≢ index_of lines fresh.tag) → line_in (turned caches own at kind fresh) own s ≡ Some l
mine_stays caches own at kind fresh s l there away = mine_in caches own at kind fresh s l (slice_get caches own) refl there away
