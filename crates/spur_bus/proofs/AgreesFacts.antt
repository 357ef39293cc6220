-- A transaction leaves caches that agree.
use Rattle.std.proofs.Common.{◌≡◌, ◌≢◌, ℕ, ◌<◌, ◌≤◌, ◌%◌, ◌^◌, ◌==◌, ⊎_elim, Bool, true, false, if◌then◌else◌, List, length, slice_get, slice_set, Option, Some, None, refl, sym, ap, ◌∙◌, subst}
use Rattle.std.proofs.lemmas.Bool.{cases_eq}
use Rattle.std.specs.Option.{option_map}
use Rattle.std.proofs.Common.{zero-add}
use Rattle.std.proofs.lemmas.List.{length-set}
use Rattle.spur_addr.specs.Address.{block_of}
use Rattle.spur_cache.specs.declared.line.Line.{Line}
use Rattle.spur_cache.specs.Lines.{IsCache, IsHeld, found, line_at, index_of, set_found, in_state}
use Rattle.spur_snoop.specs.declared.BlockState.{BlockState}
use Rattle.spur_snoop.specs.declared.BlockState.TheVariants.{Invalid, UnOwned, OwnedNonExclusive, OwnedExclusive}
use Rattle.spur_snoop.specs.declared.BusKind.{BusKind}
use Rattle.spur_snoop.specs.Protocol.{is_owned, snooped_of}
use Rattle.spur_bus.specs.Boards.{line_of, line_in, snooped_line, snooped_lines, turned_lines, turned}
use Rattle.spur_bus.specs.Agrees.{Agrees}
use Rattle.spur_snoop.specs.Size.{IsLineCount}
use Rattle.spur_snoop.specs.declared.BusKind.TheVariants as bus
use Rattle.spur_bus.proofs.Turn.{CameFrom, MayTurn, Returns, Shares, Takes, Turn, state_after}
use Rattle.spur_bus.proofs.EachFacts.{length-each, slice_get-each}
use Rattle.spur_bus.proofs.LineFacts.{not_that, set_away, some_same, that}
use Rattle.spur_bus.proofs.FromFacts.{Fresh, From, Mine, Other, from, read_mine}

-- a line after it has the tag and the frame of the new one, or of one before it
pub data Seen (caches : List (List (Option Line))) (fresh : Line) (i s : ℕ) (l : Line) : Type 0 where
  New : l.tag ≡ fresh.tag → l.frame ≡ fresh.frame → Seen caches fresh i s l
  Old : (old : Line) → line_in caches i s ≡ Some old → l.tag ≡ old.tag → l.frame ≡ old.frame → Seen caches fresh i s l

seen_in : (caches : List (List (Option Line))) (own block : ℕ) (kind : BusKind) (fresh : Line) (i s : ℕ) (l : Line) → From caches own block kind fresh i s l → Seen caches fresh i s l
seen_in caches own block kind fresh i s l (Fresh e is) = New (ap (λ (m : Line). m.tag) is) (ap (λ (m : Line). m.frame) is)
seen_in caches own block kind fresh i s l (Mine e apart there) = Old l there refl refl
seen_in caches own block kind fresh i s l (Other old e there came) = Old old there came.tag came.frame

pub seen : (caches : List (List (Option Line))) (own at : ℕ) (kind : BusKind) (fresh : Line) (i s : ℕ) (l : Line) → Agrees caches → fresh.tag ≡ block_of at → line_in (turned caches own at kind fresh) i s ≡ Some l → Seen caches fresh i s l
seen caches own at kind fresh i s l agree tag h = seen_in caches own (block_of at) kind fresh i s l (from caches own at kind fresh i s l agree tag h)

same_frame : (caches : List (List (Option Line))) (own at : ℕ) (kind : BusKind) (fresh : Line) → Agrees caches → MayTurn caches own at kind fresh
    → (i j s t : ℕ) (a b : Line) → Seen caches fresh i s a → Seen caches fresh j t b → a.tag ≡ b.tag → a.frame ≡ b.frame
same_frame caches own at kind fresh agree may i j s t a b (New ta fa) (New tb fb) same = fa ∙ sym fb
same_frame caches own at kind fresh agree may i j s t a b (New ta fa) (Old old lb tb fb) same = fa ∙ sym (may.frame j t old lb (sym tb ∙ sym same ∙ ta ∙ may.tag)) ∙ sym fb
same_frame caches own at kind fresh agree may i j s t a b (Old old la ta fa) (New tb fb) same = fa ∙ may.frame i s old la (sym ta ∙ same ∙ tb ∙ may.tag) ∙ sym fb
same_frame caches own at kind fresh agree may i j s t a b (Old olda la ta fa) (Old oldb lb tb fb) same = fa ∙ agree.one_frame i j s t olda oldb la lb (sym ta ∙ same ∙ tb) ∙ sym fb

position : (n m : ℕ) → n ≡ m → n % 128 ≡ m % 128
position n m is = ap (λ (k : ℕ). k % 128) is

same_tag : (caches : List (List (Option Line))) (own at : ℕ) (kind : BusKind) (fresh : Line) → Agrees caches → MayTurn caches own at kind fresh
    → (i j s t : ℕ) (a b : Line) → Seen caches fresh i s a → Seen caches fresh j t b → a.frame ≡ b.frame → a.tag % 128 ≡ b.tag % 128 → a.tag ≡ b.tag
same_tag caches own at kind fresh agree may i j s t a b (New ta fa) (New tb fb) same place = ta ∙ sym tb
same_tag caches own at kind fresh agree may i j s t a b (New ta fa) (Old old lb tb fb) same place =
    ta ∙ may.tag ∙ sym (may.place j t old lb (sym fb ∙ sym same ∙ fa) (sym (position b.tag old.tag tb) ∙ sym place ∙ position a.tag fresh.tag ta)) ∙ sym tb
same_tag caches own at kind fresh agree may i j s t a b (Old old la ta fa) (New tb fb) same place =
    ta ∙ may.place i s old la (sym fa ∙ same ∙ fb) (sym (position a.tag old.tag ta) ∙ place ∙ position b.tag fresh.tag tb) ∙ sym may.tag ∙ sym tb
same_tag caches own at kind fresh agree may i j s t a b (Old olda la ta fa) (Old oldb lb tb fb) same place =
    ta ∙ agree.one_place i j s t olda oldb la lb (sym fa ∙ same ∙ fb) (sym (position a.tag olda.tag ta) ∙ place ∙ position b.tag oldb.tag tb) ∙ sym tb

-- states after it

pub owned_before : (st : BlockState) (kind : BusKind) → is_owned (snooped_of st kind) ≡ true → is_owned st ≡ true
owned_before Invalid bus.ReadShared h = h
owned_before Invalid bus.ReadOwned h = h
owned_before Invalid bus.Claim h = h
owned_before Invalid bus.WriteBack h = h
owned_before OwnedNonExclusive kind h = refl
owned_before OwnedExclusive kind h = refl
owned_before UnOwned bus.ReadShared h = h
owned_before UnOwned bus.ReadOwned h = h
owned_before UnOwned bus.Claim h = h
owned_before UnOwned bus.WriteBack h = h

exclusive_before : (st : BlockState) (kind : BusKind) → snooped_of st kind ≡ OwnedExclusive → (st ≡ OwnedExclusive) × (kind ≡ bus.WriteBack)
exclusive_before Invalid bus.ReadShared h = cc
exclusive_before Invalid bus.ReadOwned h = cc
exclusive_before Invalid bus.Claim h = cc
exclusive_before Invalid bus.WriteBack h = cc
exclusive_before UnOwned bus.ReadShared h = cc
exclusive_before UnOwned bus.ReadOwned h = cc
exclusive_before UnOwned bus.Claim h = cc
exclusive_before UnOwned bus.WriteBack h = cc
exclusive_before OwnedNonExclusive bus.ReadShared h = cc
exclusive_before OwnedNonExclusive bus.ReadOwned h = cc
exclusive_before OwnedNonExclusive bus.Claim h = cc
exclusive_before OwnedNonExclusive bus.WriteBack h = cc
exclusive_before OwnedExclusive bus.ReadShared h = cc
exclusive_before OwnedExclusive bus.ReadOwned h = cc
exclusive_before OwnedExclusive bus.Claim h = cc
exclusive_before OwnedExclusive bus.WriteBack h = (refl, refl)

after_cases : (block : ℕ) (kind : BusKind) (old : Line) (P : BlockState → Type 0) → (old.tag ≡ block → P (snooped_of old.state kind)) → (old.tag ≢ block → P old.state) → P (state_after block kind old)
after_cases block kind old P here away =
    ⊎_elim (λ (e : old.tag ≡ block). subst P (sym (that block kind old e)) (here e)) (λ (a : old.tag ≢ block). subst P (sym (not_that block kind old a)) (away a)) (cases_eq old.tag block)

pub other_owned : (block : ℕ) (kind : BusKind) (old new : Line) → CameFrom block kind old new → is_owned new.state ≡ true → is_owned old.state ≡ true
other_owned block kind old new came h =
    after_cases block kind old (λ (st : BlockState). is_owned st ≡ true → is_owned old.state ≡ true) (λ _. owned_before old.state kind) (λ _. λ k. k) (ap is_owned (sym came.state) ∙ h)

-- a cache that another takes a block from has it no more
pub gone : (block : ℕ) (kind : BusKind) (old new : Line) → ((state : BlockState) → snooped_of state kind ≡ Invalid) → CameFrom block kind old new → new.tag ≢ block
gone block kind old new takes came same = came.alive (came.state ∙ that block kind old (sym came.tag ∙ same) ∙ takes old.state)

unowned : (st : BlockState) → st ≡ UnOwned → is_owned st ≡ true → ⊥
unowned st is h = let clash : false ≡ true = ap is_owned (sym is) ∙ h in cc

-- a new line that is owned was taken from all others
taken : (caches : List (List (Option Line))) (own block : ℕ) (kind : BusKind) (fresh : Line) → Turn caches own block kind fresh → is_owned fresh.state ≡ true → (state : BlockState) → snooped_of state kind ≡ Invalid
taken caches own block kind fresh (Shares k st lacks) h = absurd (unowned fresh.state st h)
taken caches own block kind fresh (Takes all st) h = all
taken caches own block kind fresh (Returns k st s old there tag owned) h = absurd (unowned fresh.state st h)

fresh_owned : (a fresh : Line) → a ≡ fresh → is_owned a.state ≡ true → is_owned fresh.state ≡ true
fresh_owned a fresh is h = ap (λ (m : Line). is_owned m.state) (sym is) ∙ h

tag_is : (a fresh : Line) (block : ℕ) → a ≡ fresh → fresh.tag ≡ block → a.tag ≡ block
tag_is a fresh block is tag = ap (λ (m : Line). m.tag) is ∙ tag

one_owner : (caches : List (List (Option Line))) (own at : ℕ) (kind : BusKind) (fresh : Line) → Agrees caches → MayTurn caches own at kind fresh
    → (i j s t : ℕ) (a b : Line) → From caches own (block_of at) kind fresh i s a → From caches own (block_of at) kind fresh j t b
    → a.tag ≡ b.tag → is_owned a.state ≡ true → is_owned b.state ≡ true → i ≡ j
one_owner caches own at kind fresh agree may i j s t a b (Fresh ei fa) (Fresh ej fb) same oa ob = ei ∙ sym ej
one_owner caches own at kind fresh agree may i j s t a b (Fresh ei fa) (Mine ej nb lb) same oa ob = ei ∙ sym ej
one_owner caches own at kind fresh agree may i j s t a b (Mine ei na la) (Fresh ej fb) same oa ob = ei ∙ sym ej
one_owner caches own at kind fresh agree may i j s t a b (Mine ei na la) (Mine ej nb lb) same oa ob = ei ∙ sym ej
one_owner caches own at kind fresh agree may i j s t a b (Fresh ei fa) (Other old aj lb cb) same oa ob =
    absurd (gone (block_of at) kind old b (taken caches own (block_of at) kind fresh may.turn (fresh_owned a fresh fa oa)) cb (sym same ∙ tag_is a fresh (block_of at) fa may.tag))
one_owner caches own at kind fresh agree may i j s t a b (Other old ai la ca) (Fresh ej fb) same oa ob =
    absurd (gone (block_of at) kind old a (taken caches own (block_of at) kind fresh may.turn (fresh_owned b fresh fb ob)) ca (same ∙ tag_is b fresh (block_of at) fb may.tag))
one_owner caches own at kind fresh agree may i j s t a b (Mine ei na la) (Other old aj lb cb) same oa ob =
    agree.one_owner i j s t a old la lb (same ∙ cb.tag) oa (other_owned (block_of at) kind old b cb ob)
one_owner caches own at kind fresh agree may i j s t a b (Other old ai la ca) (Mine ej nb lb) same oa ob =
    agree.one_owner i j s t old b la lb (sym ca.tag ∙ same) (other_owned (block_of at) kind old a ca oa) ob
one_owner caches own at kind fresh agree may i j s t a b (Other olda ai la ca) (Other oldb aj lb cb) same oa ob =
    agree.one_owner i j s t olda oldb la lb (sym ca.tag ∙ same ∙ cb.tag) (other_owned (block_of at) kind olda a ca oa) (other_owned (block_of at) kind oldb b cb ob)

owns : (st : BlockState) → st ≡ OwnedExclusive → is_owned st ≡ true
owns st is = ap is_owned is

-- another cache's line that is exclusive after it was so before
other_exclusive : (block : ℕ) (kind : BusKind) (old new : Line) → CameFrom block kind old new → new.state ≡ OwnedExclusive → old.state ≡ OwnedExclusive
other_exclusive block kind old new came h =
    after_cases block kind old (λ (st : BlockState). st ≡ OwnedExclusive → old.state ≡ OwnedExclusive) (λ _. λ k. (exclusive_before old.state kind k).0) (λ _. λ k. k) (sym came.state ∙ h)

-- and it is of another block
not_exclusive : (caches : List (List (Option Line))) (own at : ℕ) (kind : BusKind) (fresh : Line) → Agrees caches → Turn caches own (block_of at) kind fresh
    → (i s : ℕ) (old a : Line) → i ≢ own → line_in caches i s ≡ Some old → CameFrom (block_of at) kind old a → a.tag ≡ block_of at → a.state ≡ OwnedExclusive → ⊥
not_exclusive caches own at kind fresh agree (Shares k st lacks) i s old a apart la ca same ea =
    let seen : snooped_of old.state kind ≡ OwnedExclusive = sym (that (block_of at) kind old (sym ca.tag ∙ same)) ∙ sym ca.state ∙ ea in
    let clash : bus.ReadShared ≡ bus.WriteBack = sym k ∙ (exclusive_before old.state kind seen).1 in
    cc
not_exclusive caches own at kind fresh agree (Takes all st) i s old a apart la ca same ea = gone (block_of at) kind old a all ca same
not_exclusive caches own at kind fresh agree (Returns k st t mine there tag owned) i s old a apart la ca same ea =
    apart (agree.exclusive i own s t old mine la there (sym ca.tag ∙ same ∙ sym tag) (other_exclusive (block_of at) kind old a ca ea))

exclusive : (caches : List (List (Option Line))) (own at : ℕ) (kind : BusKind) (fresh : Line) → Agrees caches → MayTurn caches own at kind fresh
    → (i j s t : ℕ) (a b : Line) → From caches own (block_of at) kind fresh i s a → From caches own (block_of at) kind fresh j t b
    → a.tag ≡ b.tag → a.state ≡ OwnedExclusive → i ≡ j
exclusive caches own at kind fresh agree may i j s t a b (Fresh ei fa) (Fresh ej fb) same ea = ei ∙ sym ej
exclusive caches own at kind fresh agree may i j s t a b (Fresh ei fa) (Mine ej nb lb) same ea = ei ∙ sym ej
exclusive caches own at kind fresh agree may i j s t a b (Mine ei na la) (Fresh ej fb) same ea = ei ∙ sym ej
exclusive caches own at kind fresh agree may i j s t a b (Mine ei na la) (Mine ej nb lb) same ea = ei ∙ sym ej
exclusive caches own at kind fresh agree may i j s t a b (Fresh ei fa) (Other old aj lb cb) same ea =
    absurd (gone (block_of at) kind old b (taken caches own (block_of at) kind fresh may.turn (fresh_owned a fresh fa (owns a.state ea))) cb (sym same ∙ tag_is a fresh (block_of at) fa may.tag))
exclusive caches own at kind fresh agree may i j s t a b (Other old ai la ca) (Fresh ej fb) same ea =
    absurd (not_exclusive caches own at kind fresh agree may.turn i s old a ai la ca (same ∙ tag_is b fresh (block_of at) fb may.tag) ea)
exclusive caches own at kind fresh agree may i j s t a b (Mine ei na la) (Other old aj lb cb) same ea =
    agree.exclusive i j s t a old la lb (same ∙ cb.tag) ea
exclusive caches own at kind fresh agree may i j s t a b (Other old ai la ca) (Mine ej nb lb) same ea =
    agree.exclusive i j s t old b la lb (sym ca.tag ∙ same) (other_exclusive (block_of at) kind old a ca ea)
exclusive caches own at kind fresh agree may i j s t a b (Other olda ai la ca) (Other oldb aj lb cb) same ea =
    agree.exclusive i j s t olda oldb la lb (sym ca.tag ∙ same ∙ cb.tag) (other_exclusive (block_of at) kind olda a ca ea)

-- how many caches and lines there are

length-told : (lines : List (Option Line)) (at : ℕ) (kind : BusKind) (o : Option Line) → found lines at ≡ o → length (snooped_line lines at kind o) ≡ length lines
length-told lines at kind None is = refl
length-told lines at kind (Some x) is =
    ap (λ (o : Option Line). length (set_found lines (index_of lines (block_of at)) (snooped_of x.state kind) o)) is
    ∙ length-set lines (index_of lines (block_of at)) (in_state (snooped_of x.state kind) x)

length-if : (b : Bool) (lines news : List (Option Line)) (slot : ℕ) (fresh : Line) → length news ≡ length lines → length (if b then slice_set lines slot (Some fresh) else news) ≡ length lines
length-if true lines news slot fresh h = length-set lines slot (Some fresh)
length-if false lines news slot fresh h = h

pub length-read : (own at : ℕ) (kind : BusKind) (fresh : Line) (i : ℕ) (lines : List (Option Line)) → length (turned_lines own at kind fresh i lines) ≡ length lines
length-read own at kind fresh i lines = length-if (i == own) lines (snooped_lines lines at kind) (index_of lines fresh.tag) fresh (length-told lines at kind (found lines at) refl)

-- a cache after it was one before
pub record Was (caches : List (List (Option Line))) (own at : ℕ) (kind : BusKind) (fresh : Line) (i : ℕ) (now : List (Option Line)) : Type 0 where
  pub lines : List (Option Line)
  pub there : slice_get caches i ≡ Some lines
  pub is : now ≡ turned_lines own at kind fresh i lines

was_in : (caches : List (List (Option Line))) (own at : ℕ) (kind : BusKind) (fresh : Line) (i : ℕ) (now : List (Option Line)) (o : Option (List (Option Line)))
    → slice_get caches i ≡ o → option_map (turned_lines own at kind fresh i) o ≡ Some now → Was caches own at kind fresh i now
was_in caches own at kind fresh i now None is h = cc
was_in caches own at kind fresh i now (Some lines) is h = record { lines = lines; there = is; is = sym (some_same (turned_lines own at kind fresh i lines) now h) }

pub was : (caches : List (List (Option Line))) (own at : ℕ) (kind : BusKind) (fresh : Line) (i : ℕ) (now : List (Option Line)) → slice_get (turned caches own at kind fresh) i ≡ Some now → Was caches own at kind fresh i now
was caches own at kind fresh i now h =
    was_in caches own at kind fresh i now (slice_get caches i) refl
    (sym (slice_get-each (turned_lines own at kind fresh) 0 caches i ∙ ap (λ (n : ℕ). option_map (turned_lines own at kind fresh n) (slice_get caches i)) (zero-add i)) ∙ h)

length-was : (caches : List (List (Option Line))) (own at : ℕ) (kind : BusKind) (fresh : Line) (i : ℕ) (now : List (Option Line)) (w : Was caches own at kind fresh i now) → length now ≡ length w.lines
length-was caches own at kind fresh i now w = ap (λ (ls : List (Option Line)). length ls) w.is ∙ length-read own at kind fresh i w.lines

-- each line stands on its place, and is one that a cache may hold
pub record Sound (lines : List (Option Line)) (s : ℕ) (l : Line) : Type 0 where
  pub place : index_of lines l.tag ≡ s
  pub sound : IsHeld l

came_held : (block : ℕ) (kind : BusKind) (old new : Line) → CameFrom block kind old new → IsHeld old → IsHeld new
came_held block kind old new came h = record {
  valid = came.alive;
  tag = subst (λ (n : ℕ). n < 2 ^ 33) (sym came.tag) h.tag;
  words = ap (λ (ws : List ℕ). length ws) came.words ∙ h.words;
}

placed_in : (caches : List (List (Option Line))) (own at : ℕ) (kind : BusKind) (fresh : Line) → Agrees caches → MayTurn caches own at kind fresh
    → (i : ℕ) (now : List (Option Line)) → slice_get (turned caches own at kind fresh) i ≡ Some now → (w : Was caches own at kind fresh i now)
    → (s : ℕ) (l : Line) → line_at now s ≡ Some l → From caches own (block_of at) kind fresh i s l → Sound w.lines s l
placed_in caches own at kind fresh agree may i now h w s l there (Mine e apart old_there) =
    let p = agree.each i w.lines w.there in
    let stood : line_at w.lines s ≡ Some l = ap (λ (o : Option (List (Option Line))). line_of o s) (sym w.there) ∙ old_there in
    record { place = p.placed s l stood; sound = p.held s l stood }
placed_in caches own at kind fresh agree may i now h w s l there (Other old apart old_there came) =
    let p = agree.each i w.lines w.there in
    let stood : line_at w.lines s ≡ Some old = ap (λ (o : Option (List (Option Line))). line_of o s) (sym w.there) ∙ old_there in
    record { place = ap (index_of w.lines) came.tag ∙ p.placed s old stood; sound = came_held (block_of at) kind old l came (p.held s old stood) }
placed_in caches own at kind fresh agree may i now h w s l there (Fresh e is) =
    let slot : ℕ = index_of w.lines fresh.tag in
    let p = agree.each i w.lines w.there in
    let set_is : line_at (slice_set w.lines slot (Some fresh)) s ≡ Some l =
    ap (λ (ls : List (Option Line)). line_at ls s) (sym (read_mine own at kind fresh i w.lines e)) ∙ ap (λ (ls : List (Option Line)). line_at ls s) (sym w.is) ∙ there in
    let sound : IsHeld l = subst (λ (m : Line). IsHeld m) (sym is) may.sound in
    ⊎_elim
    (λ (f : s ≡ slot). record { place = ap (index_of w.lines) (ap (λ (m : Line). m.tag) is) ∙ sym f; sound = sound })
    (λ (f : s ≢ slot). record { place = p.placed s l (sym (set_away w.lines slot s (Some fresh) f) ∙ set_is); sound = sound })
    (cases_eq s slot)

-- so each is a cache
each_in : (caches : List (List (Option Line))) (own at : ℕ) (kind : BusKind) (fresh : Line) → Agrees caches → MayTurn caches own at kind fresh
    → (i : ℕ) (now : List (Option Line)) → slice_get (turned caches own at kind fresh) i ≡ Some now → IsCache now
each_in caches own at kind fresh agree may i now h =
    let w = was caches own at kind fresh i now h in
    let size : length now ≡ length w.lines = length-was caches own at kind fresh i now w in
    let sound : (s : ℕ) (l : Line) → line_at now s ≡ Some l → Sound w.lines s l =
    λ (s : ℕ) (l : Line) (there : line_at now s ≡ Some l).
    placed_in caches own at kind fresh agree may i now h w s l there
    (from caches own at kind fresh i s l agree may.tag (ap (λ (o : Option (List (Option Line))). line_of o s) h ∙ there)) in
    record {
      count = subst (λ (n : ℕ). IsLineCount n) (sym size) (agree.each i w.lines w.there).count;
      placed = λ (s : ℕ) (l : Line) (there : line_at now s ≡ Some l). ap (λ (n : ℕ). l.tag % n) size ∙ (sound s l there).place;
      held = λ (s : ℕ) (l : Line) (there : line_at now s ≡ Some l). (sound s l there).sound;
    }

pub agrees-turned : (caches : List (List (Option Line))) (own at : ℕ) (kind : BusKind) (fresh : Line) → Agrees caches → MayTurn caches own at kind fresh → Agrees (turned caches own at kind fresh)
agrees-turned caches own at kind fresh agree may =
    let news = turned caches own at kind fresh in
    let count : length news ≡ length caches = length-each (turned_lines own at kind fresh) 0 caches in
    let origin : (i s : ℕ) (l : Line) → line_in news i s ≡ Some l → From caches own (block_of at) kind fresh i s l = λ (i s : ℕ) (l : Line) (h : line_in news i s ≡ Some l). from caches own at kind fresh i s l agree may.tag h in
    let shown : (i s : ℕ) (l : Line) → line_in news i s ≡ Some l → Seen caches fresh i s l = λ (i s : ℕ) (l : Line) (h : line_in news i s ≡ Some l). seen caches own at kind fresh i s l agree may.tag h in
    record {
      some_caches = subst (λ (n : ℕ). 1 ≤ n) (sym count) agree.some_caches;
      few_caches = subst (λ (n : ℕ). n ≤ 12) (sym count) agree.few_caches;
      sizes = λ (i j : ℕ) (a b : List (Option Line)) (ha : slice_get news i ≡ Some a) (hb : slice_get news j ≡ Some b).
          let wa = was caches own at kind fresh i a ha in
          let wb = was caches own at kind fresh j b hb in
          length-was caches own at kind fresh i a wa ∙ agree.sizes i j wa.lines wb.lines wa.there wb.there ∙ sym (length-was caches own at kind fresh j b wb);
      each = λ (i : ℕ) (now : List (Option Line)) (h : slice_get news i ≡ Some now). each_in caches own at kind fresh agree may i now h;
      one_frame = λ (i j s t : ℕ) (a b : Line) (ha : line_in news i s ≡ Some a) (hb : line_in news j t ≡ Some b). same_frame caches own at kind fresh agree may i j s t a b (shown i s a ha) (shown j t b hb);
      one_place = λ (i j s t : ℕ) (a b : Line) (ha : line_in news i s ≡ Some a) (hb : line_in news j t ≡ Some b). same_tag caches own at kind fresh agree may i j s t a b (shown i s a ha) (shown j t b hb);
      one_owner = λ (i j s t : ℕ) (a b : Line) (ha : line_in news i s ≡ Some a) (hb : line_in news j t ≡ Some b). one_owner caches own at kind fresh agree may i j s t a b (origin i s a ha) (origin j t b hb);
      exclusive = λ (i j s t : ℕ) (a b : Line) (ha : line_in news i s ≡ Some a) (hb : line_in news j t ≡ Some b). exclusive caches own at kind fresh agree may i j s t a b (origin i s a ha) (origin j t b hb);
    }
