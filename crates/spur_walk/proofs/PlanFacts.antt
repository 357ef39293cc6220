-- The first step that applies may be done.
use Rattle.std.proofs.Common.{◌≡◌, ◌≢◌, ◌∙◌, ℕ, ◌+◌, ◌*◌, ◌/◌, ◌^◌, ◌<◌, ◌≤◌, ◌==◌, ◌&&◌, ◌||◌, Bool, true, false, not, if◌then◌else◌, ap, sym, refl, subst, List, [], get_or, length, slice_index, Option, Some, None, arith}
use Rattle.std.proofs.lemmas.Bool.{eq-eqb}
use Rattle.std.proofs.lemmas.Option.{slice_get-get_or}
use Rattle.spur_addr.specs.Address.{block_of, entry_address_of, root_index_of, table_start, root_start}
use Rattle.spur_addr.specs.PageEntry.{is_valid, is_referenced, is_dirty, is_on_swap, is_leaving}
use Rattle.spur_cache.specs.declared.line.Line.{Line}
use Rattle.spur_cache.specs.Lines.{IsCache, found, not_tagged, index_of, occupant, tagged, victim_of}
use Rattle.spur_cache.proofs.CacheFacts.{found_held}
use Rattle.spur_cache.proofs.LawFacts.{found_where_it_stands}
use Rattle.spur_snoop.specs.declared.BlockState.{BlockState}
use Rattle.spur_snoop.specs.declared.BlockState.TheVariants.{Invalid, UnOwned, OwnedNonExclusive, OwnedExclusive}
use Rattle.spur_snoop.specs.declared.Need.{Need}
use Rattle.spur_snoop.specs.declared.Need.TheVariants.{Read, Write}
use Rattle.spur_snoop.specs.Protocol.{is_owned, is_exclusive}
use Rattle.spur_flat.specs.declared.flat.Flat.{Flat}
use Rattle.spur_flat.specs.declared.access.FaultKind.{FaultKind}
use Rattle.spur_flat.specs.declared.access.FaultKind.TheVariants as fault
use Rattle.spur_flat.specs.declared.entry.Layer.{Layer}
use Rattle.spur_flat.specs.declared.entry.Layer.TheVariants.{RootBlock, PteBlock, UserBlock}
use Rattle.spur_flat.specs.Access.{allows, grants}
use Rattle.spur_flat.specs.Blocks.{root_word_of}
use Rattle.spur_flat.specs.Pager.{word_of}
use Rattle.spur_flat.specs.TagRules.{access_of, is_read, may_claim, may_fill}
use Rattle.spur_bus.specs.declared.place.Place.{Place}
use Rattle.spur_bus.specs.Boards.{line_of_block}
use Rattle.spur_bus.specs.Agrees.{Agrees}
use Rattle.spur_flat.proofs.AccessFacts.{fault_under-need}
use Rattle.spur_walk.specs.declared.looked.Looked.{Looked}
use Rattle.spur_walk.specs.declared.looked.Looked.TheVariants.{Hit, Denied, NeedsDirty, NeedsClaim, Miss}
use Rattle.spur_walk.specs.declared.plan.Plan.TheVariants as plan
use Rattle.spur_walk.specs.Look.{look_at, look_of}
use Rattle.spur_walk.specs.Tables.{block_address, root_at}
use Rattle.spur_walk.specs.Plan.{climb, fault_of, fault_or, fill_over, filling, page_by, page_climb, page_plan_of, plan_by, plan_of, root_plan, root_place, table_place, user_place, where_found}
use Rattle.spur_walk.specs.Steps.{HasBlock, IsFilled, MayDo, MayFill, MayRefresh, MayTake}
use Rattle.spur_walk.specs.Steps as filled
use Rattle.spur_walk.proofs.TableFacts.{entry_low, root_from, root_to, root_word_is}

pub some_line : (a b : Line) → Some a ≡ Some b → a ≡ b
some_line a b h = cc

-- the line of another block that stands on a block's place
pub record IsVictim (own : List (Option Line)) (g : ℕ) (line : Line) : Type 0 where
  pub stands : occupant own g ≡ Some line
  pub other : line.tag ≢ block_of g

victim_if : (b : Bool) (a line : Line) → (if b then None else Some a) ≡ Some line → (b ≡ false) × (a ≡ line)
victim_if true a line h = cc
victim_if false a line h = (refl, some_line a line h)

victim_in : (own : List (Option Line)) (g : ℕ) (line : Line) (o : Option Line) → occupant own g ≡ o → not_tagged (block_of g) o ≡ Some line → IsVictim own g line
victim_in own g line None is h = cc
victim_in own g line (Some a) is h =
    let both = victim_if (a.tag == block_of g) a line h in
    record {
      stands = is ∙ ap (λ (l : Line). Some l) both.1;
      other = λ (same : line.tag ≡ block_of g).
          let clash : true ≡ false = sym (eq-eqb a.tag (block_of g) (ap (λ (l : Line). l.tag) both.1 ∙ same)) ∙ both.0 in
          cc;
    }

pub victim_is : (own : List (Option Line)) (g : ℕ) (line : Line) → victim_of own g ≡ Some line → IsVictim own g line
victim_is own g line h = victim_in own g line (occupant own g) refl h

-- where the block is not found, what stands on its place is a victim
victim_there : (own : List (Option Line)) (g : ℕ) (line : Line) (b : Bool) → occupant own g ≡ Some line → found own g ≡ None → (line.tag == block_of g) ≡ b → victim_of own g ≡ Some line
victim_there own g line true is none test =
    let seen : found own g ≡ Some line = ap (tagged (block_of g)) is ∙ ap (λ (t : Bool). if t then Some line else None) test in
    let clash : None ≡ Some line = sym none ∙ seen in
    cc
victim_there own g line false is none test = ap (not_tagged (block_of g)) is ∙ ap (λ (t : Bool). if t then None else Some line) test

pub victim_here : (own : List (Option Line)) (g : ℕ) (line : Line) → occupant own g ≡ Some line → found own g ≡ None → victim_of own g ≡ Some line
victim_here own g line is none = victim_there own g line (line.tag == block_of g) is none refl

pub block_again : (block : ℕ) → block_of (block_address block) ≡ block
block_again block = let r : block * 2 ^ 5 / 2 ^ 5 ≡ block = omega arith in r

-- what stands on a place is found by its own block
pub victim_found : (own : List (Option Line)) (g : ℕ) (line : Line) → IsCache own → occupant own g ≡ Some line → found own (block_address line.tag) ≡ Some line
victim_found own g line cache stands = found_where_it_stands own (block_address line.tag) (index_of own (block_of g)) line cache stands (sym (block_again line.tag))

pub victim_small : (own : List (Option Line)) (g : ℕ) (line : Line) → IsCache own → victim_of own g ≡ Some line → line.tag < 2 ^ 33
victim_small own g line cache h = let v = victim_is own g line h in (cache.held (index_of own (block_of g)) line v.stands).tag

-- an owned victim is written back, or the block is filled
fill_if : (F : Flat) (caches : List (List (Option Line))) (b g at : ℕ) (l : Layer) (n : Need) (place : Place) (line : Line) (owned : Bool) → IsCache (get_or caches b []) → line_of_block caches b at ≡ None
    → IsFilled F caches b l n at place → occupant (get_or caches b []) at ≡ Some line → is_owned line.state ≡ owned
    → MayDo F caches b g (if owned then plan.WriteBack (block_address line.tag) else plan.Fill l n at place)
fill_if F caches b g at l n place line true cache none fills stands owned =
    record { line = line; there = victim_found (get_or caches b []) at line cache stands; passes = owned }
fill_if F caches b g at l n place line false cache none fills stands owned = record {
  lacks = none;
  victim = λ (other : Line) (there : occupant (get_or caches b []) at ≡ Some other). ap (λ (m : Line). is_owned m.state) (some_line other line (sym there ∙ stands)) ∙ owned;
  fills = fills;
}

may_fill_over : (F : Flat) (caches : List (List (Option Line))) (b g at : ℕ) (l : Layer) (n : Need) (place : Place) (o : Option Line) → IsCache (get_or caches b []) → line_of_block caches b at ≡ None
    → IsFilled F caches b l n at place → victim_of (get_or caches b []) at ≡ o → MayDo F caches b g (fill_over o (plan.Fill l n at place))
may_fill_over F caches b g at l n place None cache none fills is = record {
  lacks = none;
  victim = λ (other : Line) (there : occupant (get_or caches b []) at ≡ Some other).
      let clash : None ≡ Some other = sym is ∙ victim_here (get_or caches b []) at other there none in
      cc;
  fills = fills;
}
may_fill_over F caches b g at l n place (Some line) cache none fills is =
    let v = victim_is (get_or caches b []) at line is in
    fill_if F caches b g at l n place line (is_owned line.state) cache none fills v.stands refl

may_filling : (F : Flat) (caches : List (List (Option Line))) (b g at : ℕ) (l : Layer) (n : Need) (place : Place) → IsCache (get_or caches b []) → line_of_block caches b at ≡ None
    → IsFilled F caches b l n at place → MayDo F caches b g (filling (get_or caches b []) l n at place)
may_filling F caches b g at l n place cache none fills = may_fill_over F caches b g at l n place (victim_of (get_or caches b []) at) cache none fills refl

-- step 2
fills_if : (v s l a r w d : Bool)
    → (if not v && not s then Some fault.Unmapped else if not v then Some fault.Missing else if l then Some fault.Leaving else if not a then Some fault.Protection else if not r then Some fault.Reference else if not w && not d then Some fault.Dirty else None) ≡ None
    → (v && r && not l && a && (d || w)) ≡ true
fills_if true s false true true w true h = refl
fills_if true s false true true true false h = refl
fills_if true s false true true false false h = cc
fills_if true s false true false w d h = cc
fills_if true s false false r w d h = cc
fills_if true s true a r w d h = cc
fills_if false true l a r w d h = cc
fills_if false false l a r w d h = cc

pub fills : (e : ℕ) (need : Need) → fault_of e need ≡ None → may_fill e need ≡ true
fills e need h = fills_if (is_valid e) (is_on_swap e) (is_leaving e) (allows e (access_of need)) (is_referenced e) (is_read need) (is_dirty e) (sym (fault_under-need e need) ∙ h)

may_user : (F : Flat) (caches : List (List (Option Line))) (b at : ℕ) (need : Need) (o : Option FaultKind) → IsCache (get_or caches b []) → at < table_start → line_of_block caches b at ≡ None → HasBlock caches b (entry_address_of at)
    → fault_of (word_of F at) need ≡ o → MayDo F caches b at (fault_or o (filling (get_or caches b []) UserBlock need at (user_place (word_of F at))))
may_user F caches b at need (Some kind) cache user none above is = tt
may_user F caches b at need None cache user none above is =
    may_filling F caches b at at UserBlock need (user_place (word_of F at)) cache none (filled.OfUserBlock need at (user_place (word_of F at)) user above (fills (word_of F at) need is) refl)

-- steps 3 and 4
table_from : (at : ℕ) → table_start ≤ entry_address_of at
table_from at = let r : 255 * 2 ^ 30 ≤ 255 * 2 ^ 30 + 4 * (at / 2 ^ 12) = omega arith in r

may_table_fill : (F : Flat) (caches : List (List (Option Line))) (b g at : ℕ) (need : Need) → IsCache (get_or caches b []) → at < table_start → line_of_block caches b (entry_address_of at) ≡ None
    → HasBlock caches b (entry_address_of (entry_address_of at)) → is_valid (root_at F at) ≡ true → MayDo F caches b g (filling (get_or caches b []) PteBlock need (entry_address_of at) (table_place (root_at F at)))
may_table_fill F caches b g at need cache user none above valid =
    let index : root_word_of (entry_address_of at) ≡ root_index_of at = root_word_is at user in
    may_filling F caches b g (entry_address_of at) PteBlock need (table_place (root_at F at)) cache none
    (filled.OfPteBlock need (entry_address_of at) (table_place (root_at F at)) (table_from at) (entry_low at user) above
    (ap (λ (n : ℕ). is_valid (slice_index F.words n)) index ∙ valid)
    (ap (λ (n : ℕ). table_place (slice_index F.words n)) (sym index)))

may_table : (F : Flat) (caches : List (List (Option Line))) (b g at : ℕ) (v : Bool) → IsCache (get_or caches b []) → at < table_start → line_of_block caches b (entry_address_of at) ≡ None
    → HasBlock caches b (entry_address_of (entry_address_of at)) → is_valid (root_at F at) ≡ v
    → MayDo F caches b g (if v then filling (get_or caches b []) PteBlock Read (entry_address_of at) (table_place (root_at F at)) else plan.Fault fault.Unmapped)
may_table F caches b g at true cache user none above valid = may_table_fill F caches b g at Read cache user none above valid
may_table F caches b g at false cache user none above valid = tt

may_root : (F : Flat) (caches : List (List (Option Line))) (b g at : ℕ) → IsCache (get_or caches b []) → at < table_start → line_of_block caches b (entry_address_of (entry_address_of at)) ≡ None
    → MayDo F caches b g (root_plan (get_or caches b []) at)
may_root F caches b g at cache user none =
    may_filling F caches b g (entry_address_of (entry_address_of at)) RootBlock Read (root_place (entry_address_of (entry_address_of at))) cache none
    (filled.OfRootBlock (entry_address_of (entry_address_of at)) (root_place (entry_address_of (entry_address_of at))) (root_from at) (root_to at user) refl)

may_climb : (F : Flat) (caches : List (List (Option Line))) (b at : ℕ) (o : Option Line) → IsCache (get_or caches b []) → at < table_start → line_of_block caches b (entry_address_of at) ≡ None
    → line_of_block caches b (entry_address_of (entry_address_of at)) ≡ o → MayDo F caches b at (climb (get_or caches b []) at (where_found o (root_at F at)))
may_climb F caches b at None cache user none is = may_root F caches b at at cache user is
may_climb F caches b at (Some line) cache user none is = may_table F caches b at at (is_valid (root_at F at)) cache user none (record { line = line; there = is }) refl

-- step 1
pub not_missed : (o : Option Line) (need : Need) → look_of o need ≡ Miss → o ≡ None
not_missed None need h = refl
not_missed (Some line) need h = absurd (missed_at line need (not (grants line.prot (access_of need))) h)
  where
    missed_write : (b c : Bool) → (if b then NeedsDirty else if c then NeedsClaim else Hit) ≡ Miss → ⊥
    missed_write true c h = cc
    missed_write false true h = cc
    missed_write false false h = cc

    missed_at : (line : Line) (need : Need) (a : Bool) → (if a then Denied else look_at line need) ≡ Miss → ⊥
    missed_at line need true h = cc
    missed_at line Read false h = cc
    missed_at line Write false h = missed_write (not line.dirty) (not (is_exclusive line.state)) h

-- what an answer says of the line
pub data Answers (line : Line) : Need → Looked → Type 0 where
  Reads : grants line.prot (access_of Read) ≡ true → Answers line Read Hit
  Denies : (need : Need) → grants line.prot (access_of need) ≡ false → Answers line need Denied
  Cleans : grants line.prot (access_of Write) ≡ true → line.dirty ≡ false → Answers line Write NeedsDirty
  Shares : grants line.prot (access_of Write) ≡ true → line.dirty ≡ true → is_exclusive line.state ≡ false → Answers line Write NeedsClaim
  Writes : grants line.prot (access_of Write) ≡ true → line.dirty ≡ true → is_exclusive line.state ≡ true → Answers line Write Hit

answers_in : (line : Line) (need : Need) (g d e : Bool) → grants line.prot (access_of need) ≡ g → line.dirty ≡ d → is_exclusive line.state ≡ e → Answers line need (look_of (Some line) need)
answers_in line need false d e granted dirty exclusive =
    subst (λ (k : Looked). Answers line need k) (sym (ap (λ (t : Bool). if not t then Denied else look_at line need) granted)) (Denies need granted)
answers_in line Read true d e granted dirty exclusive =
    subst (λ (k : Looked). Answers line Read k) (sym (ap (λ (t : Bool). if not t then Denied else look_at line Read) granted)) (Reads granted)
answers_in line Write true false e granted dirty exclusive =
    subst (λ (k : Looked). Answers line Write k)
    (sym (ap (λ (t : Bool). if not t then Denied else look_at line Write) granted ∙ ap (λ (t : Bool). if not t then NeedsDirty else if not (is_exclusive line.state) then NeedsClaim else Hit) dirty))
    (Cleans granted dirty)
answers_in line Write true true false granted dirty exclusive =
    subst (λ (k : Looked). Answers line Write k)
    (sym (ap (λ (t : Bool). if not t then Denied else look_at line Write) granted ∙ ap (λ (t : Bool). if not t then NeedsDirty else if not (is_exclusive line.state) then NeedsClaim else Hit) dirty ∙ ap (λ (t : Bool). if not t then NeedsClaim else Hit) exclusive))
    (Shares granted dirty exclusive)
answers_in line Write true true true granted dirty exclusive =
    subst (λ (k : Looked). Answers line Write k)
    (sym (ap (λ (t : Bool). if not t then Denied else look_at line Write) granted ∙ ap (λ (t : Bool). if not t then NeedsDirty else if not (is_exclusive line.state) then NeedsClaim else Hit) dirty ∙ ap (λ (t : Bool). if not t then NeedsClaim else Hit) exclusive))
    (Writes granted dirty exclusive)

pub answers : (line : Line) (need : Need) → Answers line need (look_of (Some line) need)
answers line need = answers_in line need (grants line.prot (access_of need)) line.dirty (is_exclusive line.state) refl refl refl

pub answers_as : (line : Line) (need : Need) (looked : Looked) → look_of (Some line) need ≡ looked → Answers line need looked
answers_as line need looked is = subst (λ (k : Looked). Answers line need k) is (answers line need)

pub may_be_claimed : (state : BlockState) → is_exclusive state ≡ false → state ≢ Invalid → may_claim state ≡ true
may_be_claimed Invalid h valid = absurd (valid refl)
may_be_claimed UnOwned h valid = refl
may_be_claimed OwnedNonExclusive h valid = refl
may_be_claimed OwnedExclusive h valid = cc

user_low : (at : ℕ) → at < table_start → at < root_start
user_low at user = let u : at < 255 * 2 ^ 30 = user in let r : at < 255 * 2 ^ 30 + 255 * 2 ^ 20 = omega arith in r

claim_as : (caches : List (List (Option Line))) (b at : ℕ) (need : Need) (line : Line) → IsCache (get_or caches b []) → at < table_start → line_of_block caches b at ≡ Some line → Answers line need NeedsClaim → MayTake caches b at
claim_as caches b at Write line cache user is (Shares granted dirty exclusive) = record {
  low = user_low at user;
  shared = record { line = line; there = is; passes = may_be_claimed line.state exclusive (found_held (get_or caches b []) at line cache is).valid };
}
claim_as caches b at Read line cache user is answer = elim answer [ ]

may_claim_in : (caches : List (List (Option Line))) (b at : ℕ) (need : Need) (o : Option Line) → IsCache (get_or caches b []) → at < table_start → line_of_block caches b at ≡ o → look_of o need ≡ NeedsClaim → MayTake caches b at
may_claim_in caches b at need None cache user is seen = cc
may_claim_in caches b at need (Some line) cache user is seen = claim_as caches b at need line cache user is (answers_as line need NeedsClaim seen)

refresh_as : (F : Flat) (caches : List (List (Option Line))) (b at : ℕ) (need : Need) (line : Line) → at < table_start → line_of_block caches b at ≡ Some line → HasBlock caches b (entry_address_of at) → is_leaving (word_of F at) ≡ false → is_dirty (word_of F at) ≡ true
    → Answers line need NeedsDirty → MayRefresh F caches b at
refresh_as F caches b at Write line user is above staying dirty (Cleans granted clear) =
    record { user = user; line = line; there = is; clear = clear; above = above; dirty = dirty; staying = staying }
refresh_as F caches b at Read line user is above staying dirty answer = elim answer [ ]

may_refresh_in : (F : Flat) (caches : List (List (Option Line))) (b at : ℕ) (need : Need) (o : Option Line) → at < table_start → line_of_block caches b at ≡ o → HasBlock caches b (entry_address_of at) → is_leaving (word_of F at) ≡ false → is_dirty (word_of F at) ≡ true
    → look_of o need ≡ NeedsDirty → MayRefresh F caches b at
may_refresh_in F caches b at need None user is above staying dirty seen = cc
may_refresh_in F caches b at need (Some line) user is above staying dirty seen = refresh_as F caches b at need line user is above staying dirty (answers_as line need NeedsDirty seen)

may_dirty : (F : Flat) (caches : List (List (Option Line))) (b at : ℕ) (need : Need) (l d : Bool) → at < table_start → HasBlock caches b (entry_address_of at) → look_of (line_of_block caches b at) need ≡ NeedsDirty
    → is_leaving (word_of F at) ≡ l → is_dirty (word_of F at) ≡ d → MayDo F caches b at (if l then plan.Fault fault.Leaving else if d then plan.Refresh else plan.Fault fault.Dirty)
may_dirty F caches b at need true d user above seen leaving dirty = tt
may_dirty F caches b at need false true user above seen leaving dirty = may_refresh_in F caches b at need (line_of_block caches b at) user refl above leaving dirty seen
may_dirty F caches b at need false false user above seen leaving dirty = tt

-- the four steps
may_by : (F : Flat) (caches : List (List (Option Line))) (b at : ℕ) (need : Need) (e : Option Line) (looked : Looked) → IsCache (get_or caches b []) → at < table_start
    → line_of_block caches b (entry_address_of at) ≡ e → look_of (line_of_block caches b at) need ≡ looked
    → MayDo F caches b at (plan_by (get_or caches b []) at need (where_found e (word_of F at)) (where_found (line_of_block caches b (entry_address_of (entry_address_of at))) (root_at F at)) looked)
may_by F caches b at need e Hit cache user above seen = tt
may_by F caches b at need e Denied cache user above seen = tt
may_by F caches b at need e NeedsClaim cache user above seen = may_claim_in caches b at need (line_of_block caches b at) cache user refl seen
may_by F caches b at need None NeedsDirty cache user above seen = may_climb F caches b at (line_of_block caches b (entry_address_of (entry_address_of at))) cache user above refl
may_by F caches b at need (Some line) NeedsDirty cache user above seen =
    may_dirty F caches b at need (is_leaving (word_of F at)) (is_dirty (word_of F at)) user (record { line = line; there = above }) seen refl refl
may_by F caches b at need None Miss cache user above seen = may_climb F caches b at (line_of_block caches b (entry_address_of (entry_address_of at))) cache user above refl
may_by F caches b at need (Some line) Miss cache user above seen =
    may_user F caches b at need (fault_of (word_of F at) need) cache user (not_missed (line_of_block caches b at) need seen) (record { line = line; there = above }) refl

pub own_cache : (caches : List (List (Option Line))) (b : ℕ) → Agrees caches → b < length caches → IsCache (get_or caches b [])
own_cache caches b agree within = agree.each b (get_or caches b []) (slice_get-get_or caches b [] within)

pub may_do : (F : Flat) (caches : List (List (Option Line))) (b at : ℕ) (need : Need) → Agrees caches → b < length caches → at < table_start → MayDo F caches b at (plan_of (get_or caches b []) F at need)
may_do F caches b at need agree within user =
    may_by F caches b at need (line_of_block caches b (entry_address_of at)) (look_of (line_of_block caches b at) need) (own_cache caches b agree within) user refl refl

-- towards the block of a page's entry
may_alone : (F : Flat) (caches : List (List (Option Line))) (b page : ℕ) (line : Line) (e : Bool) → IsCache (get_or caches b []) → page < table_start → line_of_block caches b (entry_address_of page) ≡ Some line → is_exclusive line.state ≡ e
    → MayDo F caches b (entry_address_of page) (if e then plan.Ready else plan.Claim)
may_alone F caches b page line true cache user is exclusive = tt
may_alone F caches b page line false cache user is exclusive = record {
  low = entry_low page user;
  shared = record { line = line; there = is; passes = may_be_claimed line.state exclusive (found_held (get_or caches b []) (entry_address_of page) line cache is).valid };
}

may_page_climb : (F : Flat) (caches : List (List (Option Line))) (b page : ℕ) (r : Option Line) → IsCache (get_or caches b []) → page < table_start → is_valid (root_at F page) ≡ true
    → line_of_block caches b (entry_address_of page) ≡ None → line_of_block caches b (entry_address_of (entry_address_of page)) ≡ r
    → MayDo F caches b (entry_address_of page) (page_climb (get_or caches b []) page (where_found r (root_at F page)))
may_page_climb F caches b page None cache user valid none is = may_root F caches b (entry_address_of page) page cache user is
may_page_climb F caches b page (Some line) cache user valid none is = may_table_fill F caches b (entry_address_of page) page Write cache user none (record { line = line; there = is }) valid

may_page : (F : Flat) (caches : List (List (Option Line))) (b page : ℕ) (e : Option Line) → IsCache (get_or caches b []) → page < table_start → is_valid (root_at F page) ≡ true → line_of_block caches b (entry_address_of page) ≡ e
    → MayDo F caches b (entry_address_of page) (page_by (get_or caches b []) page (where_found (line_of_block caches b (entry_address_of (entry_address_of page))) (root_at F page)) e)
may_page F caches b page None cache user valid is = may_page_climb F caches b page (line_of_block caches b (entry_address_of (entry_address_of page))) cache user valid is refl
may_page F caches b page (Some line) cache user valid is = may_alone F caches b page line (is_exclusive line.state) cache user is refl

pub may_do_page : (F : Flat) (caches : List (List (Option Line))) (b page : ℕ) → Agrees caches → b < length caches → page < table_start → is_valid (root_at F page) ≡ true
    → MayDo F caches b (entry_address_of page) (page_plan_of (get_or caches b []) F page)
may_do_page F caches b page agree within user valid = may_page F caches b page (line_of_block caches b (entry_address_of page)) (own_cache caches b agree within) user valid refl
