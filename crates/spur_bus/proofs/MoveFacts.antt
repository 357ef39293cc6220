-- A transaction keeps the logical memory, and the words of all lines.
use Rattle.std.proofs.Common.{◌≡◌, ◌≢◌, ℕ, zero, suc, ◌+◌, ◌*◌, ◌<◌, ◌≤◌, ◌%◌, ◌/◌, ◌⊎◌, inl, inr, ⊎_elim, true, false, List, [], ◌∷◌, length, slice_get, slice_index, Option, Some, None, refl, sym, ap, ◌∙◌, subst, arith}
use Rattle.std.proofs.lemmas.Bool.{cases_eq}
use Rattle.std.specs.Option.{option_map}
use Rattle.std.proofs.Common.{mod-lt}
use Rattle.spur_addr.specs.Address.{block_of}
use Rattle.spur_cache.specs.declared.line.Line.{Line}
use Rattle.spur_cache.specs.Lines.{line_at, index_of}
use Rattle.spur_snoop.specs.declared.BlockState.{BlockState}
use Rattle.spur_snoop.specs.declared.BlockState.TheVariants.{Invalid, UnOwned, OwnedNonExclusive, OwnedExclusive}
use Rattle.spur_snoop.specs.declared.BusKind.{BusKind}
use Rattle.spur_snoop.specs.Protocol.{is_owned, snooped_of}
use Rattle.spur_bus.specs.Boards.{line_of, line_in, turned_lines, turned}
use Rattle.spur_bus.specs.Logical.{word_or, logical_word}
use Rattle.spur_bus.specs.Agrees.{Agrees, IsAt, AgreesWithMemory}
use Rattle.spur_snoop.specs.declared.BusKind.TheVariants as bus
use Rattle.spur_bus.proofs.Turn.{IsWritten, MayMove, MayTurn, Returns, Shares, Takes, Turn}
use Rattle.spur_bus.proofs.LineFacts.{not_that, set_there, some_same, that}
use Rattle.spur_bus.proofs.FromFacts.{Fresh, From, Mine, Other, from, line-turned, mine_stays, other_stays, read_mine}
use Rattle.spur_bus.proofs.OwnerFacts.{Free, Owned, Owner, OwnsAt, is_at, owner}

get_none : {X : Type 0} (xs : List X) (i : ℕ) → i < length xs → slice_get xs i ≡ None → ⊥
get_none [] i within is = absurd (omega arith)
get_none (x ∷ xs) zero within is = cc
get_none (x ∷ xs) (suc i) within is = get_none xs i (omega arith) is

-- the new line stands there
there_in : (caches : List (List (Option Line))) (own at : ℕ) (kind : BusKind) (fresh : Line) (o : Option (List (Option Line))) → Agrees caches → slice_get caches own ≡ o → own < length caches
    → (s : ℕ) × (line_in (turned caches own at kind fresh) own s ≡ Some fresh)
there_in caches own at kind fresh None agree is within = absurd (get_none caches own within is)
there_in caches own at kind fresh (Some lines) agree is within =
    let slot : ℕ = index_of lines fresh.tag in
    let some : 16 ≤ length lines = (agree.each own lines is).count.some_lines in
    let small : slot < length lines = mod-lt fresh.tag (omega arith) in (
      slot,
      line-turned caches own at kind fresh own slot
          ∙ ap (λ (o : Option (List (Option Line))). line_of (option_map (turned_lines own at kind fresh own) o) slot) is
          ∙ ap (λ (ls : List (Option Line)). line_at ls slot) (read_mine own at kind fresh own lines refl)
          ∙ set_there lines slot (Some fresh) small,
    )

pub new_there : (caches : List (List (Option Line))) (own at : ℕ) (kind : BusKind) (fresh : Line) → Agrees caches → MayTurn caches own at kind fresh → (s : ℕ) × (line_in (turned caches own at kind fresh) own s ≡ Some fresh)
new_there caches own at kind fresh agree may = there_in caches own at kind fresh (slice_get caches own) agree refl may.there

-- no line of a place is owned after it
abbrev pub NoOwner : List (List (Option Line)) → ℕ → ℕ → Type 0
NoOwner news f p = (j t : ℕ) (m : Line) → line_in news j t ≡ Some m → OwnsAt f p m → ⊥

live : (st : BlockState) → is_owned st ≡ true → st ≢ Invalid
live st owned dead = let clash : false ≡ true = ap is_owned (sym dead) ∙ owned in cc

-- an owned line of another cache and another block stays owned
stays_away : (caches : List (List (Option Line))) (own at : ℕ) (kind : BusKind) (fresh : Line) (f p i s : ℕ) (l : Line) → Agrees caches → line_in caches i s ≡ Some l → OwnsAt f p l
    → NoOwner (turned caches own at kind fresh) f p → i ≢ own → l.tag ≢ block_of at → ⊥
stays_away caches own at kind fresh f p i s l agree there o none apart away =
    let stay = other_stays caches own at kind fresh i s l agree there apart (inl away) in
    none i s stay.new stay.there (record {
      owned = ap is_owned (stay.is_state ∙ not_that (block_of at) kind l away) ∙ o.owned;
      in_frame = stay.frame ∙ o.in_frame;
      in_position = ap (λ (n : ℕ). n % 128) stay.tag ∙ o.in_position;
    })

-- an owned line of another cache stays owned, unless its block is taken
stays_owned : (caches : List (List (Option Line))) (own at : ℕ) (kind : BusKind) (fresh : Line) (f p i s : ℕ) (l : Line) → Agrees caches → line_in caches i s ≡ Some l → OwnsAt f p l
    → NoOwner (turned caches own at kind fresh) f p → i ≢ own → (l.tag ≢ block_of at) ⊎ (is_owned (snooped_of l.state kind) ≡ true) → ⊥
stays_owned caches own at kind fresh f p i s l agree there o none apart (inl away) =
    stays_away caches own at kind fresh f p i s l agree there o none apart away
stays_owned caches own at kind fresh f p i s l agree there o none apart (inr owned) =
    ⊎_elim
    (λ (same : l.tag ≡ block_of at).
    let stay = other_stays caches own at kind fresh i s l agree there apart (inr (live (snooped_of l.state kind) owned)) in
    none i s stay.new stay.there (record {
      owned = ap is_owned (stay.is_state ∙ that (block_of at) kind l same) ∙ owned;
      in_frame = stay.frame ∙ o.in_frame;
      in_position = ap (λ (n : ℕ). n % 128) stay.tag ∙ o.in_position;
    }))
    (λ (away : l.tag ≢ block_of at). stays_away caches own at kind fresh f p i s l agree there o none apart away)
    (cases_eq l.tag (block_of at))

shared_owned : (st : BlockState) → is_owned st ≡ true → is_owned (snooped_of st bus.ReadShared) ≡ true
shared_owned Invalid h = h
shared_owned UnOwned h = h
shared_owned OwnedNonExclusive h = h
shared_owned OwnedExclusive h = h

-- the line of the block, owned before, where no line owns its place after
pub data Fate (kind : BusKind) (fresh : Line) (k : ℕ) : Type 0 where
  Went : kind ≡ bus.WriteBack → IsAt k fresh → Fate kind fresh k

fresh_at : (caches : List (List (Option Line))) (own at : ℕ) (kind : BusKind) (fresh : Line) (k i s : ℕ) (l : Line) → MayTurn caches own at kind fresh → line_in caches i s ≡ Some l → l.tag ≡ block_of at → OwnsAt (k / 1024) (k / 8 % 128) l → IsAt k fresh
fresh_at caches own at kind fresh k i s l may there same o = record {
  frame = sym o.in_frame ∙ may.frame i s l there same;
  position = sym o.in_position ∙ ap (λ (n : ℕ). n % 128) (same ∙ sym may.tag);
}

taken_owned : (caches : List (List (Option Line))) (own at : ℕ) (kind : BusKind) (fresh : Line) (k : ℕ) → Agrees caches → MayTurn caches own at kind fresh → is_owned fresh.state ≡ true → IsAt k fresh → NoOwner (turned caches own at kind fresh) (k / 1024) (k / 8 % 128) → ⊥
taken_owned caches own at kind fresh k agree may owned there none =
    let new = new_there caches own at kind fresh agree may in
    none own new.0 fresh new.1 (record { owned = owned; in_frame = sym there.frame; in_position = sym there.position })

fate : (caches : List (List (Option Line))) (own at : ℕ) (kind : BusKind) (fresh : Line) (k i s : ℕ) (l : Line) → Agrees caches → MayTurn caches own at kind fresh
    → NoOwner (turned caches own at kind fresh) (k / 1024) (k / 8 % 128) → line_in caches i s ≡ Some l → OwnsAt (k / 1024) (k / 8 % 128) l → l.tag ≡ block_of at → Turn caches own (block_of at) kind fresh → Fate kind fresh k
fate caches own at kind fresh k i s l agree may none there o same (Shares is st lacks) =
    ⊎_elim
    (λ (e : i ≡ own). absurd (lacks s l (ap (λ (n : ℕ). line_in caches n s) (sym e) ∙ there) same))
    (λ (apart : i ≢ own). absurd (stays_owned caches own at kind fresh (k / 1024) (k / 8 % 128) i s l agree there o none apart
    (inr (ap (λ (b : BusKind). is_owned (snooped_of l.state b)) is ∙ shared_owned l.state o.owned))))
    (cases_eq i own)
fate caches own at kind fresh k i s l agree may none there o same (Takes all owned) =
    absurd (taken_owned caches own at kind fresh k agree may owned (fresh_at caches own at kind fresh k i s l may there same o) none)
fate caches own at kind fresh k i s l agree may none there o same (Returns is st t mine there_mine tag owned) =
    Went is (fresh_at caches own at kind fresh k i s l may there same o)

-- a line of the same cache and another block stays owned
mine_owned : (caches : List (List (Option Line))) (own at : ℕ) (kind : BusKind) (fresh : Line) (old new : List ℕ) (f p s : ℕ) (l : Line) (o : Option (List (Option Line)))
    → MayMove caches own at kind fresh old new → slice_get caches own ≡ o → line_of o s ≡ Some l → is_owned l.state ≡ true → l.tag ≢ block_of at → (lines : List (Option Line)) → slice_get caches own ≡ Some lines → s ≢ index_of lines fresh.tag
mine_owned caches own at kind fresh old new f p s l None move is there owned away lines at_own e = cc
mine_owned caches own at kind fresh old new f p s l (Some ls) move is there owned away lines at_own e =
    let same : ls ≡ lines = some_same ls lines (sym is ∙ at_own) in
    let stands : line_at lines (index_of lines fresh.tag) ≡ Some l = ap (line_at lines) (sym e) ∙ ap (λ (x : List (Option Line)). line_at x s) (sym same) ∙ there in
    away (move.victim lines l at_own stands owned)

unowned_after : (caches : List (List (Option Line))) (own at : ℕ) (kind : BusKind) (fresh : Line) (old new : List ℕ) (k i s : ℕ) (l : Line) → Agrees caches → MayTurn caches own at kind fresh → MayMove caches own at kind fresh old new
    → NoOwner (turned caches own at kind fresh) (k / 1024) (k / 8 % 128) → line_in caches i s ≡ Some l → OwnsAt (k / 1024) (k / 8 % 128) l → Fate kind fresh k
unowned_after caches own at kind fresh old new k i s l agree may move none there o =
    ⊎_elim
    (λ (same : l.tag ≡ block_of at). fate caches own at kind fresh k i s l agree may none there o same may.turn)
    (λ (away : l.tag ≢ block_of at).
    ⊎_elim
    (λ (e : i ≡ own).
    let mine : line_in caches own s ≡ Some l = ap (λ (n : ℕ). line_in caches n s) (sym e) ∙ there in
    absurd (none own s l (mine_stays caches own at kind fresh s l mine
    (mine_owned caches own at kind fresh old new (k / 1024) (k / 8 % 128) s l (slice_get caches own) move refl mine o.owned away)) o))
    (λ (apart : i ≢ own). absurd (stays_away caches own at kind fresh (k / 1024) (k / 8 % 128) i s l agree there o none apart away))
    (cases_eq i own))
    (cases_eq l.tag (block_of at))

-- each line after it has the words of the logical memory before it
line_words : (caches : List (List (Option Line))) (own at : ℕ) (kind : BusKind) (fresh : Line) (old new : List ℕ) (k i s : ℕ) (l : Line) → MayMove caches own at kind fresh old new → AgreesWithMemory caches old → IsAt k l
    → From caches own (block_of at) kind fresh i s l → slice_index l.words (k % 8) ≡ logical_word caches old k
line_words caches own at kind fresh old new k i s l move serves is (Fresh e f) =
    ap (λ (m : Line). slice_index m.words (k % 8)) f ∙ move.words k (subst (λ (m : Line). IsAt k m) f is)
line_words caches own at kind fresh old new k i s l move serves is (Mine e away there) = serves.words i s k l there is
line_words caches own at kind fresh old new k i s l move serves is (Other before apart there came) =
    ap (λ (ws : List ℕ). slice_index ws (k % 8)) came.words
    ∙ serves.words i s k before there (record { frame = is.frame ∙ came.frame; position = is.position ∙ ap (λ (n : ℕ). n % 128) came.tag })

went : (caches : List (List (Option Line))) (own at : ℕ) (kind : BusKind) (fresh : Line) (old new : List ℕ) (k : ℕ) → MayMove caches own at kind fresh old new → Fate kind fresh k → slice_index new k ≡ logical_word caches old k
went caches own at kind fresh old new k move (Went is there) = move.returned k is there ∙ move.words k there

memory_word : (caches : List (List (Option Line))) (own at : ℕ) (kind : BusKind) (fresh : Line) (old new : List ℕ) (k : ℕ) → MayMove caches own at kind fresh old new → logical_word caches old k ≡ slice_index old k
    → (slice_index new k ≡ slice_index old k) ⊎ IsWritten fresh new k → slice_index new k ≡ logical_word caches old k
memory_word caches own at kind fresh old new k move plain (inl same) = same ∙ sym plain
memory_word caches own at kind fresh old new k move plain (inr w) = w.word ∙ move.words k w.at

free_word : (caches : List (List (Option Line))) (own at : ℕ) (kind : BusKind) (fresh : Line) (old new : List ℕ) (k : ℕ) → Agrees caches → MayTurn caches own at kind fresh → MayMove caches own at kind fresh old new
    → NoOwner (turned caches own at kind fresh) (k / 1024) (k / 8 % 128) → Owner caches (k / 1024) (k / 8 % 128) → slice_index new k ≡ logical_word caches old k
free_word caches own at kind fresh old new k agree may move none (Free is before) =
    memory_word caches own at kind fresh old new k move (ap (λ (o : Option (List ℕ)). word_or o (slice_index old k) k) is) (move.memory k)
free_word caches own at kind fresh old new k agree may move none (Owned i s l there o is) =
    went caches own at kind fresh old new k move (unowned_after caches own at kind fresh old new k i s l agree may move none there o)

moved : (caches : List (List (Option Line))) (own at : ℕ) (kind : BusKind) (fresh : Line) (old new : List ℕ) (k : ℕ) → Agrees caches → MayTurn caches own at kind fresh → AgreesWithMemory caches old → MayMove caches own at kind fresh old new
    → Owner (turned caches own at kind fresh) (k / 1024) (k / 8 % 128) → logical_word (turned caches own at kind fresh) new k ≡ logical_word caches old k
moved caches own at kind fresh old new k agree may serves move (Free is none) =
    ap (λ (o : Option (List ℕ)). word_or o (slice_index new k) k) is
    ∙ free_word caches own at kind fresh old new k agree may move none (owner caches (k / 1024) (k / 8 % 128))
moved caches own at kind fresh old new k agree may serves move (Owned i s l there o is) =
    ap (λ (w : Option (List ℕ)). word_or w (slice_index new k) k) is
    ∙ line_words caches own at kind fresh old new k i s l move serves (is_at k l o) (from caches own at kind fresh i s l agree may.tag there)

-- the logical memory stays
pub logical-turned : (caches : List (List (Option Line))) (own at : ℕ) (kind : BusKind) (fresh : Line) (old new : List ℕ) (k : ℕ) → Agrees caches → MayTurn caches own at kind fresh → AgreesWithMemory caches old → MayMove caches own at kind fresh old new
    → logical_word (turned caches own at kind fresh) new k ≡ logical_word caches old k
logical-turned caches own at kind fresh old new k agree may serves move = moved caches own at kind fresh old new k agree may serves move (owner (turned caches own at kind fresh) (k / 1024) (k / 8 % 128))

line_frame : (caches : List (List (Option Line))) (own at : ℕ) (kind : BusKind) (fresh : Line) (old new : List ℕ) (i s : ℕ) (l : Line) → AgreesWithMemory caches old → MayMove caches own at kind fresh old new
    → From caches own (block_of at) kind fresh i s l → l.frame * 1024 + 1024 ≤ length old
line_frame caches own at kind fresh old new i s l serves move (Fresh e f) = subst (λ (m : Line). m.frame * 1024 + 1024 ≤ length old) (sym f) move.within
line_frame caches own at kind fresh old new i s l serves move (Mine e away there) = serves.within i s l there
line_frame caches own at kind fresh old new i s l serves move (Other before apart there came) = subst (λ (n : ℕ). n * 1024 + 1024 ≤ length old) (sym came.frame) (serves.within i s before there)

-- and each line has its words
pub serves-turned : (caches : List (List (Option Line))) (own at : ℕ) (kind : BusKind) (fresh : Line) (old new : List ℕ) → Agrees caches → MayTurn caches own at kind fresh → AgreesWithMemory caches old → MayMove caches own at kind fresh old new
    → AgreesWithMemory (turned caches own at kind fresh) new
serves-turned caches own at kind fresh old new agree may serves move = record {
  within = λ (i s : ℕ) (l : Line) (there : line_in (turned caches own at kind fresh) i s ≡ Some l).
      subst (λ (n : ℕ). l.frame * 1024 + 1024 ≤ n) (sym move.size) (line_frame caches own at kind fresh old new i s l serves move (from caches own at kind fresh i s l agree may.tag there));
  words = λ (i s k : ℕ) (l : Line) (there : line_in (turned caches own at kind fresh) i s ≡ Some l) (is : IsAt k l).
      line_words caches own at kind fresh old new k i s l move serves is (from caches own at kind fresh i s l agree may.tag there)
      ∙ sym (logical-turned caches own at kind fresh old new k agree may serves move);
}
