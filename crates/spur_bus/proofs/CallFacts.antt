-- A line that a board has is put in another state.
use Rattle.std.proofs.Common.{◌≡◌, ◌≢◌, ◌∙◌, ℕ, ◌+◌, ◌<◌, ◌≤◌, ◌*◌, ◌%◌, ◌⊎◌, inl, true, ap, sym, refl, subst, get_or, List, [], length, slice_get, slice_index, Option, Some, arith}
use Rattle.std.proofs.lemmas.List.{length-map}
use Rattle.std.proofs.lemmas.List as L
use Rattle.std.proofs.lemmas.Option.{slice_get-get_or}
use Rattle.spur_addr.specs.Address.{block_of, block_start_of}
use Rattle.spur_cache.specs.declared.line.Line.{Line}
use Rattle.spur_cache.specs.Lines.{line_at, index_of}
use Rattle.spur_snoop.specs.declared.BlockState.{BlockState}
use Rattle.spur_snoop.specs.declared.BlockState.TheVariants.{Invalid, UnOwned, OwnedNonExclusive, OwnedExclusive}
use Rattle.spur_snoop.specs.declared.BusKind.{BusKind}
use Rattle.spur_snoop.specs.Protocol.{is_owned, snooped_of}
use Rattle.spur_flat.specs.declared.tag.Tag.{Tag}
use Rattle.spur_flat.specs.TagRules.{may_claim}
use Rattle.spur_bus.specs.Boards.{line_of, line_in, line_of_block, turned_lines, turned}
use Rattle.spur_bus.specs.Agrees.{Agrees, IsAt, AgreesWithMemory}
use Rattle.spur_bus.specs.Calls.{HasLine, tag_of, line_tag, cache_tags, tags_of, KeepsWords, KeepsAllWords, line_count}
use Rattle.spur_snoop.specs.declared.BusKind.TheVariants as bus
use Rattle.spur_flat.specs.TagLines as T
use Rattle.spur_bus.proofs.Turn.{IsWritten, MayMove, MayTurn, Takes, Turn}
use Rattle.spur_bus.proofs.LineFacts.{some_same, tagged_is}
use Rattle.spur_bus.proofs.AgreesFacts.{agrees-turned, length-read}
use Rattle.spur_bus.proofs.WordsFacts.{count-each, same-words}
use Rattle.spur_bus.proofs.MoveFacts.{logical-turned, serves-turned}
use Rattle.spur_bus.proofs.TagsFacts.{tag_in-tags, tags-turned}

pub record IsHere (caches : List (List (Option Line))) (b at : ℕ) (line : Line) : Type 0 where
  pub slot : ℕ
  pub there : line_in caches b slot ≡ Some line
  pub tag : line.tag ≡ block_of at
  pub slot_is : slot ≡ index_of (get_or caches b []) (block_of at)
  pub board : slice_get caches b ≡ Some (get_or caches b [])

pub is_here : (caches : List (List (Option Line))) (b at : ℕ) (line : Line) → b < length caches → line_of_block caches b at ≡ Some line → IsHere caches b at line
is_here caches b at line within is =
    let lines : List (Option Line) = get_or caches b [] in
    let slot : ℕ = index_of lines (block_of at) in
    let both = tagged_is (block_of at) (line_at lines slot) line is in
    let at_b : slice_get caches b ≡ Some lines = slice_get-get_or caches b [] within in
    record { slot = slot; there = ap (λ (o : Option (List (Option Line))). line_of o slot) at_b ∙ both.0; tag = both.1; slot_is = refl; board = at_b }

pub may_restate : (caches : List (List (Option Line))) (own at : ℕ) (kind : BusKind) (state : BlockState) (line : Line) → Agrees caches → own < length caches → IsHere caches own at line → state ≢ Invalid
    → Turn caches own (block_of at) kind (record line { state = state }) → MayTurn caches own at kind (record line { state = state })
may_restate caches own at kind state line agree within here alive turn =
    let held = (agree.each own (get_or caches own []) here.board).held here.slot line (ap (λ (o : Option (List (Option Line))). line_of o here.slot) (sym here.board) ∙ here.there) in
    record {
      there = within;
      tag = here.tag;
      sound = record { valid = alive; tag = held.tag; words = held.words };
      frame = λ (i s : ℕ) (l : Line) (there : line_in caches i s ≡ Some l) (same : l.tag ≡ block_of at). agree.one_frame i own s here.slot l line there here.there (same ∙ sym here.tag);
      place = λ (i s : ℕ) (l : Line) (there : line_in caches i s ≡ Some l) (frames : l.frame ≡ line.frame) (positions : l.tag % 128 ≡ line.tag % 128).
          agree.one_place i own s here.slot l line there here.there frames positions ∙ here.tag;
      turn = turn;
    }

pub at_same : (k : ℕ) (line : Line) (state : BlockState) → IsAt k (record line { state = state }) → IsAt k line
at_same k line state h = record { frame = h.frame; position = h.position }

pub move_restate : (caches : List (List (Option Line))) (own at : ℕ) (kind : BusKind) (state : BlockState) (line : Line) (old new : List ℕ) → Agrees caches → AgreesWithMemory caches old → IsHere caches own at line
    → length new ≡ length old
    → ((k : ℕ) → (slice_index new k ≡ slice_index old k) ⊎ IsWritten (record line { state = state }) new k)
    → ((k : ℕ) → kind ≡ bus.WriteBack → IsAt k (record line { state = state }) → slice_index new k ≡ slice_index line.words (k % 8))
    → MayMove caches own at kind (record line { state = state }) old new
move_restate caches own at kind state line old new agree serves here size memory returned = record {
  within = serves.within own here.slot line here.there;
  size = size;
  words = λ (k : ℕ) (is : IsAt k (record line { state = state })). serves.words own here.slot k line here.there (at_same k line state is);
  victim = λ (lines : List (Option Line)) (l : Line) (board : slice_get caches own ≡ Some lines) (there : line_at lines (index_of lines line.tag) ≡ Some l) (owned : is_owned l.state ≡ true).
      let same : get_or caches own [] ≡ lines = some_same (get_or caches own []) lines (sym here.board ∙ board) in
      let slot : index_of lines line.tag ≡ here.slot = ap (index_of lines) here.tag ∙ ap (λ (ls : List (Option Line)). index_of ls (block_of at)) (sym same) ∙ sym here.slot_is in
      let both : Some l ≡ Some line = sym there ∙ ap (line_at lines) slot ∙ ap (λ (o : Option (List (Option Line))). line_of o here.slot) (sym board) ∙ here.there in
      ap (λ (m : Line). m.tag) (some_same l line both) ∙ here.tag;
  memory = memory;
  returned = returned;
}

-- the tags after a line was put in another state
pub tags_in : (caches : List (List (Option Line))) (b at : ℕ) (line : Line) → b < length caches → line_of_block caches b at ≡ Some line → T.tag_at (tags_of caches) b (block_of at) ≡ Some (tag_of line)
tags_in caches b at line within is =
    ap (λ (ls : List (Option Tag)). T.tag_in ls (block_of at)) (L.get_or-map cache_tags caches b [] [] within)
    ∙ tag_in-tags (get_or caches b []) at ∙ ap line_tag is

pub start_block : (at : ℕ) → block_of (block_start_of at) ≡ block_of at
start_block at = omega arith

pub tags_restated : (caches : List (List (Option Line))) (b at : ℕ) (kind : BusKind) (state : BlockState) (line : Line) → b < length caches → line_of_block caches b at ≡ Some line → line.tag ≡ block_of at
    → tags_of (turned caches b at kind (record line { state = state })) ≡ T.bus_on (tags_of caches) b (block_of (block_start_of at)) kind (T.restated_tag (T.tag_at (tags_of caches) b (block_of (block_start_of at))) state)
tags_restated caches b at kind state line within is tag =
    tags-turned caches b at kind (record line { state = state }) tag
    ∙ ap (λ (t : Option Tag). T.bus_on (tags_of caches) b (block_of at) kind (T.restated_tag t state)) (sym (tags_in caches b at line within is))
    ∙ ap (λ (n : ℕ). T.bus_on (tags_of caches) b n kind (T.restated_tag (T.tag_at (tags_of caches) b n) state)) (sym (start_block at))

claims : (st : BlockState) → snooped_of st bus.Claim ≡ Invalid
claims Invalid = refl
claims UnOwned = refl
claims OwnedNonExclusive = refl
claims OwnedExclusive = refl

pub exclusive_alive : OwnedExclusive ≢ Invalid
exclusive_alive h = cc

pub unowned_alive : UnOwned ≢ Invalid
unowned_alive h = cc

not_back : bus.Claim ≢ bus.WriteBack
not_back h = cc

-- what a call promises of caches and memory
pub record Promised (caches news : List (List (Option Line))) (old new : List ℕ) : Type 0 where
  pub agree : Agrees news
  pub keeps : KeepsWords caches news old new
  pub lines : line_count news ≡ line_count caches

pub turned_keeps : (caches : List (List (Option Line))) (own at : ℕ) (kind : BusKind) (fresh : Line) (old new : List ℕ) → Agrees caches → MayTurn caches own at kind fresh → AgreesWithMemory caches old → MayMove caches own at kind fresh old new
    → KeepsWords caches (turned caches own at kind fresh) old new
turned_keeps caches own at kind fresh old new agree may serves move = record {
  serves = serves-turned caches own at kind fresh old new agree may serves move;
  logical = same-words caches (turned caches own at kind fresh) old new (λ (k : ℕ). logical-turned caches own at kind fresh old new k agree may serves move) move.size;
}

pub count-turned : (caches : List (List (Option Line))) (own at : ℕ) (kind : BusKind) (fresh : Line) → line_count (turned caches own at kind fresh) ≡ line_count caches
count-turned caches own at kind fresh = count-each (turned_lines own at kind fresh) caches (length-read own at kind fresh)

pub turned_all : (caches news : List (List (Option Line))) (own at : ℕ) (kind : BusKind) (fresh : Line) (old new : List ℕ) → Agrees caches → MayTurn caches own at kind fresh → AgreesWithMemory caches old → MayMove caches own at kind fresh old new
    → news ≡ turned caches own at kind fresh → Promised caches news old new
turned_all caches news own at kind fresh old new agree may serves move is =
    subst (λ (n : List (List (Option Line))). Promised caches n old new) (sym is) (record {
      agree = agrees-turned caches own at kind fresh agree may;
      keeps = turned_keeps caches own at kind fresh old new agree may serves move;
      lines = count-turned caches own at kind fresh;
    })

-- a claim
pub claim_agrees : (caches news : List (List (Option Line))) (b at : ℕ) (h : HasLine caches b at may_claim) → Agrees caches → b < length caches → news ≡ turned caches b at bus.Claim (record h.line { state = OwnedExclusive }) → Agrees news
claim_agrees caches news b at h agree within is =
    let here = is_here caches b at h.line within h.there in
    let may = may_restate caches b at bus.Claim OwnedExclusive h.line agree within here exclusive_alive (Takes claims refl) in
    subst (λ (n : List (List (Option Line))). Agrees n) (sym is) (agrees-turned caches b at bus.Claim (record h.line { state = OwnedExclusive }) agree may)

pub claim_keeps : (caches news : List (List (Option Line))) (b at : ℕ) (h : HasLine caches b at may_claim) → Agrees caches → b < length caches → news ≡ turned caches b at bus.Claim (record h.line { state = OwnedExclusive }) → KeepsAllWords caches news
claim_keeps caches news b at h agree within is memory serves =
    let fresh : Line = record h.line { state = OwnedExclusive } in
    let here = is_here caches b at h.line within h.there in
    let may = may_restate caches b at bus.Claim OwnedExclusive h.line agree within here exclusive_alive (Takes claims refl) in
    let move = move_restate caches b at bus.Claim OwnedExclusive h.line memory memory agree serves here refl (λ (k : ℕ). inl refl) (λ (k : ℕ) (e : bus.Claim ≡ bus.WriteBack) (i : IsAt k fresh). absurd (not_back e)) in
    subst (λ (n : List (List (Option Line))). KeepsWords caches n memory memory) (sym is) (turned_keeps caches b at bus.Claim fresh memory memory agree may serves move)

pub restate_tags : (caches news : List (List (Option Line))) (b at start : ℕ) (kind : BusKind) (state : BlockState) (line : Line) → b < length caches → line_of_block caches b at ≡ Some line → start ≡ block_start_of at
    → news ≡ turned caches b at kind (record line { state = state })
    → tags_of news ≡ T.bus_on (tags_of caches) b (block_of start) kind (T.restated_tag (T.tag_at (tags_of caches) b (block_of start)) state)
restate_tags caches news b at start kind state line within there start_is is =
    ap tags_of is ∙ tags_restated caches b at kind state line within there (is_here caches b at line within there).tag
    ∙ ap (λ (n : ℕ). T.bus_on (tags_of caches) b (block_of n) kind (T.restated_tag (T.tag_at (tags_of caches) b (block_of n)) state)) (sym start_is)

-- the frame of a line is one of the memory's
pub frame_room : (caches : List (List (Option Line))) (memory : List ℕ) (b at : ℕ) (line : Line) → AgreesWithMemory caches memory → b < length caches → line_of_block caches b at ≡ Some line → line.frame * 1024 + 1024 ≤ length memory
frame_room caches memory b at line serves within there = let here = is_here caches b at line within there in serves.within b here.slot line here.there
