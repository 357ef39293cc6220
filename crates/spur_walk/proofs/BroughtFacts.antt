-- A step of the walk brings in no line of a page that is leaving or not in a frame.
use Rattle.std.proofs.Common.{◌≡◌, ◌≢◌, ◌∙◌, ℕ, ◌<◌, ◌≤◌, ◌&&◌, ◌||◌, ◌⊎◌, inl, inr, ⊎_elim, Bool, true, false, not, ap, sym, refl, subst, List, [], get_or, length, slice_set, Option, Some, None, arith}
use Rattle.std.proofs.lemmas.Bool.{cases_eq}
use Rattle.std.proofs.lemmas.List as L
use Rattle.std.proofs.lemmas.Option.{slice_get-get_or}
use Rattle.spur_addr.specs.Address.{block_of, block_start_of, entry_address_of, root_start, table_start}
use Rattle.spur_addr.specs.PageEntry.{is_dirty, is_leaving, is_referenced, is_valid}
use Rattle.spur_cache.specs.declared.line.Line.{Line}
use Rattle.spur_cache.specs.Lines.{changed_found, dirtied, line_at, index_of, with_line}
use Rattle.spur_snoop.specs.declared.BlockState.{BlockState}
use Rattle.spur_snoop.specs.declared.BlockState.TheVariants.{UnOwned, OwnedExclusive}
use Rattle.spur_snoop.specs.declared.BusKind.{BusKind}
use Rattle.spur_snoop.specs.declared.BusKind.TheVariants as bus
use Rattle.spur_snoop.specs.declared.Need.{Need}
use Rattle.spur_snoop.specs.declared.Need.TheVariants.{Read, Write}
use Rattle.spur_flat.specs.declared.flat.Flat.{Flat}
use Rattle.spur_flat.specs.declared.entry.Layer.{Layer}
use Rattle.spur_flat.specs.declared.entry.Layer.TheVariants.{RootBlock, PteBlock, UserBlock}
use Rattle.spur_flat.specs.Access.{allows}
use Rattle.spur_flat.specs.Pager.{word_of}
use Rattle.spur_flat.specs.TagLines.{filled_state, kind_of}
use Rattle.spur_flat.specs.TagRules.{access_of, is_read, may_fill}
use Rattle.spur_bus.specs.declared.place.Place.{Place}
use Rattle.spur_bus.specs.Agrees.{Agrees}
use Rattle.spur_bus.specs.Boards.{line_in, line_of, line_of_block, turned, restated_line}
use Rattle.spur_bus.specs.Calls.{read_line}
use Rattle.spur_bus.specs.Logical.{logical_block}
use Rattle.spur_bus.proofs.CallFacts.{is_here}
use Rattle.spur_bus.proofs.FromFacts.{From, Fresh, Mine, Other, from}
use Rattle.spur_bus.proofs.LineFacts.{set_away}
use Rattle.spur_walk.specs.declared.plan.Plan.{Plan}
use Rattle.spur_walk.specs.declared.plan.Plan.TheVariants as plan
use Rattle.spur_walk.specs.Steps.{IsFilled, MayDo, MayFill, OfPteBlock, OfRootBlock, OfUserBlock, stepped}
use Rattle.spur_walk.specs.Tables.{block_address, logical_flat}
use Rattle.spur_walk.proofs.FillFacts.{start_from_root, start_from_table}
use Rattle.spur_walk.proofs.PlanFacts.{may_do, may_do_page}
use Rattle.spur_walk.proofs.PutFacts.{Here, Put, There, put_from}
use Rattle.spur_walk.proofs.ServeFacts.{own-turned}
use Rattle.spur_walk.proofs.StepFacts.{length-turned}
use Rattle.spur_walk.proofs.TableFacts.{word_start}
use Rattle.spur_walk.specs.Brought.{BringsStaying, HadBlock, StaysInFrame, PageStepBringsStaying, StepBringsStaying}

had : (caches : List (List (Option Line))) (i s : ℕ) (l : Line) → line_in caches i s ≡ Some l → HadBlock caches i s l
had caches i s l there = record { old = l; there = there; tag = refl }

-- a line after a transaction: the new one at its place, or one of a block that had a line there
record IsNew (caches : List (List (Option Line))) (own : ℕ) (fresh : Line) (i s : ℕ) (l : Line) : Type 0 where
  board : i ≡ own
  slot : s ≡ index_of (get_or caches own []) fresh.tag
  line : l ≡ fresh

line_after : (caches : List (List (Option Line))) (own g : ℕ) (kind : BusKind) (fresh : Line) (s : ℕ) → own < length caches → line_in (turned caches own g kind fresh) own s ≡ line_at (with_line (get_or caches own []) fresh) s
line_after caches own g kind fresh s within =
    let long : own < length (turned caches own g kind fresh) = subst (λ (n : ℕ). own < n) (sym (length-turned caches own g kind fresh)) within in
    ap (λ (o : Option (List (Option Line))). line_of o s) (slice_get-get_or (turned caches own g kind fresh) own [] long)
    ∙ ap (λ (ls : List (Option Line)). line_at ls s) (own-turned caches own g kind fresh within)

line_before : (caches : List (List (Option Line))) (own s : ℕ) → own < length caches → line_in caches own s ≡ line_at (get_or caches own []) s
line_before caches own s within = ap (λ (o : Option (List (Option Line))). line_of o s) (slice_get-get_or caches own [] within)

turned_in : (caches : List (List (Option Line))) (own g : ℕ) (kind : BusKind) (fresh : Line) (i s : ℕ) (l : Line) → own < length caches → line_in (turned caches own g kind fresh) i s ≡ Some l
    → From caches own (block_of g) kind fresh i s l → IsNew caches own fresh i s l ⊎ HadBlock caches i s l
turned_in caches own g kind fresh i s l within h (Fresh e is) =
    let lines : List (Option Line) = get_or caches own [] in
    let slot : ℕ = index_of lines fresh.tag in
    let mine : line_at (slice_set lines slot (Some fresh)) s ≡ Some l = sym (line_after caches own g kind fresh s within) ∙ ap (λ (n : ℕ). line_in (turned caches own g kind fresh) n s) (sym e) ∙ h in
    ⊎_elim
    (λ (f : s ≡ slot). inl (record { board = e; slot = f; line = is }))
    (λ (f : s ≢ slot). inr (had caches i s l
    (ap (λ (n : ℕ). line_in caches n s) e ∙ line_before caches own s within ∙ sym (set_away lines slot s (Some fresh) f) ∙ mine)))
    (cases_eq s slot)
turned_in caches own g kind fresh i s l within h (Mine e apart there) = inr (had caches i s l there)
turned_in caches own g kind fresh i s l within h (Other old e there came) = inr (record { old = old; there = there; tag = sym came.tag })

turned_had : (caches : List (List (Option Line))) (own g : ℕ) (kind : BusKind) (fresh : Line) (i s : ℕ) (l : Line) → Agrees caches → own < length caches → fresh.tag ≡ block_of g → line_in (turned caches own g kind fresh) i s ≡ Some l
    → IsNew caches own fresh i s l ⊎ HadBlock caches i s l
turned_had caches own g kind fresh i s l agree within tag h = turned_in caches own g kind fresh i s l within h (from caches own g kind fresh i s l agree tag h)

-- a line in another state
restated_had : (caches : List (List (Option Line))) (b g : ℕ) (kind : BusKind) (state : BlockState) (o : Option Line) (i s : ℕ) (l : Line) → Agrees caches → b < length caches → line_of_block caches b g ≡ o
    → line_in (restated_line caches b g kind state o) i s ≡ Some l → HadBlock caches i s l
restated_had caches b g kind state None i s l agree within is h = had caches i s l h
restated_had caches b g kind state (Some line) i s l agree within is h =
    let here = is_here caches b g line within is in
    let own : List (Option Line) = get_or caches b [] in
    ⊎_elim
    (λ (new : IsNew caches b (record line { state = state }) i s l).
    let there : line_in caches i s ≡ Some line =
    ap (λ (n : ℕ). line_in caches n s) new.board ∙ ap (line_in caches b) (new.slot ∙ ap (index_of own) here.tag ∙ sym here.slot_is) ∙ here.there in
    record { old = line; there = there; tag = ap (λ (m : Line). m.tag) (sym new.line) })
    (λ (was : HadBlock caches i s l). was)
    (turned_had caches b g kind (record line { state = state }) i s l agree within here.tag h)

-- a dirty copy that is set
put_had : (caches : List (List (Option Line))) (b slot : ℕ) (line : Line) (i s : ℕ) (l : Line) → line_in caches b slot ≡ Some line → Put caches b slot (dirtied line) i s l → HadBlock caches i s l
put_had caches b slot line i s l there (Here e f is) = record {
  old = line;
  there = ap (λ (n : ℕ). line_in caches n s) e ∙ ap (line_in caches b) f ∙ there;
  tag = ap (λ (m : Line). m.tag) (sym is);
}
put_had caches b slot line i s l there (There stood away) = had caches i s l stood

dirtied_had : (caches : List (List (Option Line))) (b g : ℕ) (o : Option Line) (i s : ℕ) (l : Line) → b < length caches → line_of_block caches b g ≡ o → line_in (slice_set caches b (changed_found (get_or caches b []) (index_of (get_or caches b []) (block_of g)) dirtied o)) i s ≡ Some l → HadBlock caches i s l
dirtied_had caches b g None i s l within is h = had caches i s l (ap (λ (cs : List (List (Option Line))). line_in cs i s) (sym (L.set-get_or caches b [])) ∙ h)
dirtied_had caches b g (Some line) i s l within is h =
    let here = is_here caches b g line within is in
    let slot : ℕ = index_of (get_or caches b []) (block_of g) in
    put_had caches b slot line i s l (ap (line_in caches b) (sym here.slot_is) ∙ here.there) (put_from caches b slot (dirtied line) i s l within h)

-- a block that is filled
staying_if : (v r l a d : Bool) → (v && r && not l && a && d) ≡ true → (v && not l) ≡ true
staying_if true r false a d h = refl
staying_if true true true a d h = cc
staying_if true false true a d h = cc
staying_if false r l a d h = cc

staying : (e : ℕ) (need : Need) → may_fill e need ≡ true → (is_valid e && not (is_leaving e)) ≡ true
staying e need h = staying_if (is_valid e) (is_referenced e) (is_leaving e) (allows e (access_of need)) (is_dirty e || is_read need) h

filled_stays : (F : Flat) (caches : List (List (Option Line))) (b : ℕ) (l : Layer) (n : Need) (g : ℕ) (place : Place) → IsFilled F caches b l n g place → block_address (block_of g) < table_start
    → (is_valid (word_of F (block_address (block_of g))) && not (is_leaving (word_of F (block_address (block_of g))))) ≡ true
filled_stays F caches b UserBlock n g place (OfUserBlock m k p low above may is) below =
    ap (λ (w : ℕ). is_valid w && not (is_leaving w)) (word_start F g) ∙ staying (word_of F g) n may
filled_stays F caches b PteBlock n g place (OfPteBlock m k p low to above valid is) below = let start : table_start ≤ block_start_of g = start_from_table g low in absurd (omega arith)
filled_stays F caches b RootBlock Read g place (OfRootBlock k p low to is) below = let start : root_start ≤ block_start_of g = start_from_root g low in absurd (omega arith)
filled_stays F caches b RootBlock Write g place filled below = elim filled [ ]

fill_brings : (caches : List (List (Option Line))) (memory : List ℕ) (b g : ℕ) (l : Layer) (n : Need) (at : ℕ) (place : Place) → Agrees caches → b < length caches → MayFill (logical_flat caches memory) caches b l n at place
    → BringsStaying caches memory (stepped caches memory b g (plan.Fill l n at place))
fill_brings caches memory b g l n at place agree within may i s line h low =
    let fresh : Line = read_line at (filled_state n) place (logical_block caches memory place.frame at) in
    ⊎_elim
    (λ (new : IsNew caches b fresh i s line).
    let tag : line.tag ≡ block_of at = ap (λ (m : Line). m.tag) new.line in
    inl (subst (λ (t : ℕ). StaysInFrame caches memory (block_address t)) (sym tag)
    (filled_stays (logical_flat caches memory) caches b l n at place may.fills (subst (λ (t : ℕ). block_address t < table_start) tag low))))
    (λ (was : HadBlock caches i s line). inr was)
    (turned_had caches b at (kind_of n) fresh i s line agree within refl h)

pub brings : (caches : List (List (Option Line))) (memory : List ℕ) (b g : ℕ) (p : Plan) → Agrees caches → b < length caches → MayDo (logical_flat caches memory) caches b g p → BringsStaying caches memory (stepped caches memory b g p)
brings caches memory b g plan.Ready agree within may i s line h low = inr (had caches i s line h)
brings caches memory b g (plan.Fault kind) agree within may i s line h low = inr (had caches i s line h)
brings caches memory b g plan.Refresh agree within may i s line h low = inr (dirtied_had caches b g (line_of_block caches b g) i s line within refl h)
brings caches memory b g plan.Claim agree within may i s line h low = inr (restated_had caches b g bus.Claim OwnedExclusive (line_of_block caches b g) i s line agree within refl h)
brings caches memory b g (plan.WriteBack at) agree within may i s line h low = inr (restated_had caches b at bus.WriteBack UnOwned (line_of_block caches b at) i s line agree within refl h)
brings caches memory b g (plan.Fill l n at place) agree within may i s line h low = fill_brings caches memory b g l n at place agree within may i s line h low

pub step-brings : StepBringsStaying
step-brings caches memory b at need walk within user =
    brings caches memory b at _ walk.agree within (may_do (logical_flat caches memory) caches b at need walk.agree within user)

pub page-brings : PageStepBringsStaying
page-brings caches memory b page walk within user valid =
    brings caches memory b (entry_address_of page) _ walk.agree within (may_do_page (logical_flat caches memory) caches b page walk.agree within user valid)
