-- A line of a cache, put in the place of one that differs from it in its words, its protection and its dirty copy alone.
use Rattle.std.proofs.Common.{◌≡◌, ◌≢◌, ◌∙◌, ℕ, zero, suc, ◌+◌, ◌*◌, ◌/◌, ◌%◌, ◌^◌, ◌<◌, ◌≤◌, ⊎_elim, true, ap, sym, refl, subst, List, [], ◌∷◌, get_or, length, slice_get, slice_set, slice_index, Option, Some, None}
use Rattle.std.proofs.lemmas.Bool.{cases_eq}
use Rattle.std.proofs.lemmas.List.{length-set}
use Rattle.std.proofs.lemmas.Option.{slice_get-get_or}
use Rattle.spur_cache.specs.declared.line.Line.{Line}
use Rattle.spur_cache.specs.Lines.{IsCache, IsHeld, line_at, index_of}
use Rattle.spur_cache.proofs.CacheFacts.{cache-set}
use Rattle.spur_snoop.specs.declared.BlockState.TheVariants.{OwnedExclusive}
use Rattle.spur_snoop.specs.Protocol.{is_owned}
use Rattle.spur_bus.specs.Boards.{line_in, line_of}
use Rattle.spur_bus.specs.Logical.{owner_of, logical_word, word_or}
use Rattle.spur_bus.specs.Agrees.{Agrees, AgreesWithMemory, IsAt}
use Rattle.spur_bus.specs.Calls.{KeepsWords, line_count}
use Rattle.spur_bus.proofs.LineFacts.{slice_get-set_same, slice_get-set_other, some_same, set_hit, set_there, set_away, line_within}
use Rattle.spur_bus.proofs.OwnerFacts.{OwnsAt, Owner, Owned, Free, owner, logical_owned}
use Rattle.spur_bus.proofs.WordsFacts.{same-words}

abbrev pub put : List (List (Option Line)) → ℕ → ℕ → Line → List (List (Option Line))
put caches b s fresh = slice_set caches b (slice_set (get_or caches b []) s (Some fresh))

-- a line after it: the new one, or an old one that stands elsewhere
pub data Put (caches : List (List (Option Line))) (b s : ℕ) (fresh : Line) (i t : ℕ) (l : Line) : Type 0 where
  Here : i ≡ b → t ≡ s → l ≡ fresh → Put caches b s fresh i t l
  There : line_in caches i t ≡ Some l → (i ≡ b → t ≡ s → ⊥) → Put caches b s fresh i t l

board : (caches : List (List (Option Line))) (b : ℕ) → b < length caches → slice_get caches b ≡ Some (get_or caches b [])
board caches b within = slice_get-get_or caches b [] within

line-put : (caches : List (List (Option Line))) (b s : ℕ) (fresh : Line) (t : ℕ) → b < length caches → line_in (put caches b s fresh) b t ≡ line_at (slice_set (get_or caches b []) s (Some fresh)) t
line-put caches b s fresh t within =
    ap (λ (o : Option (List (Option Line))). line_of o t) (slice_get-set_same caches b (get_or caches b []) (slice_set (get_or caches b []) s (Some fresh)) (board caches b within))

line-old : (caches : List (List (Option Line))) (b t : ℕ) → b < length caches → line_in caches b t ≡ line_at (get_or caches b []) t
line-old caches b t within = ap (λ (o : Option (List (Option Line))). line_of o t) (board caches b within)

pub stood : (caches : List (List (Option Line))) (b s : ℕ) (line : Line) → b < length caches → line_in caches b s ≡ Some line → line_at (get_or caches b []) s ≡ Some line
stood caches b s line within there = sym (line-old caches b s within) ∙ there

line-other : (caches : List (List (Option Line))) (b s : ℕ) (fresh : Line) (i t : ℕ) → i ≢ b → line_in (put caches b s fresh) i t ≡ line_in caches i t
line-other caches b s fresh i t apart = ap (λ (o : Option (List (Option Line))). line_of o t) (slice_get-set_other caches b i (slice_set (get_or caches b []) s (Some fresh)) apart)

pub put_from : (caches : List (List (Option Line))) (b s : ℕ) (fresh : Line) (i t : ℕ) (l : Line) → b < length caches → line_in (put caches b s fresh) i t ≡ Some l → Put caches b s fresh i t l
put_from caches b s fresh i t l within h =
    let own : List (Option Line) = get_or caches b [] in
    ⊎_elim
    (λ (e : i ≡ b).
    let mine : line_at (slice_set own s (Some fresh)) t ≡ Some l = sym (line-put caches b s fresh t within) ∙ ap (λ (n : ℕ). line_in (put caches b s fresh) n t) (sym e) ∙ h in
    ⊎_elim
    (λ (f : t ≡ s).
    let hit : Some fresh ≡ Some l = set_hit own s (Some fresh) l (ap (line_at (slice_set own s (Some fresh))) (sym f) ∙ mine) in
    Here e f (sym (some_same fresh l hit)))
    (λ (f : t ≢ s).
    let kept : line_at own t ≡ Some l = sym (set_away own s t (Some fresh) f) ∙ mine in
    There (ap (λ (n : ℕ). line_in caches n t) e ∙ line-old caches b t within ∙ kept) (λ (g : i ≡ b) (u : t ≡ s). f u))
    (cases_eq t s))
    (λ (apart : i ≢ b). There (sym (line-other caches b s fresh i t apart) ∙ h) (λ (g : i ≡ b) (u : t ≡ s). apart g))
    (cases_eq i b)

pub put_here : (caches : List (List (Option Line))) (b s : ℕ) (fresh line : Line) → b < length caches → line_in caches b s ≡ Some line → line_in (put caches b s fresh) b s ≡ Some fresh
put_here caches b s fresh line within there =
    line-put caches b s fresh s within ∙ set_there (get_or caches b []) s (Some fresh) (line_within (get_or caches b []) s line (stood caches b s line within there))

pub put_there : (caches : List (List (Option Line))) (b s : ℕ) (fresh : Line) (i t : ℕ) (l : Line) → b < length caches → line_in caches i t ≡ Some l → (i ≡ b → t ≡ s → ⊥) → line_in (put caches b s fresh) i t ≡ Some l
put_there caches b s fresh i t l within there away =
    let own : List (Option Line) = get_or caches b [] in
    ⊎_elim
    (λ (e : i ≡ b).
    let kept : line_at own t ≡ Some l = sym (line-old caches b t within) ∙ ap (λ (n : ℕ). line_in caches n t) (sym e) ∙ there in
    ap (λ (n : ℕ). line_in (put caches b s fresh) n t) e ∙ line-put caches b s fresh t within ∙ set_away own s t (Some fresh) (away e) ∙ kept)
    (λ (apart : i ≢ b). line-other caches b s fresh i t apart ∙ there)
    (cases_eq i b)

-- the new line is as the old one but for its words, its protection and its dirty copy
pub record IsAlike (old new : Line) : Type 0 where
  pub tag : new.tag ≡ old.tag
  pub frame : new.frame ≡ old.frame
  pub state : new.state ≡ old.state
  pub full : length new.words ≡ 8

pub record Was (caches : List (List (Option Line))) (i t : ℕ) (l : Line) : Type 0 where
  pub old : Line
  pub there : line_in caches i t ≡ Some old
  pub tag : l.tag ≡ old.tag
  pub frame : l.frame ≡ old.frame
  pub state : l.state ≡ old.state

was_in : (caches : List (List (Option Line))) (b s : ℕ) (fresh line : Line) (i t : ℕ) (l : Line) → line_in caches b s ≡ Some line → IsAlike line fresh → Put caches b s fresh i t l → Was caches i t l
was_in caches b s fresh line i t l there like (Here e f is) = record {
  old = line;
  there = ap (λ (n : ℕ). line_in caches n t) e ∙ ap (λ (n : ℕ). line_in caches b n) f ∙ there;
  tag = ap (λ (m : Line). m.tag) is ∙ like.tag;
  frame = ap (λ (m : Line). m.frame) is ∙ like.frame;
  state = ap (λ (m : Line). m.state) is ∙ like.state;
}
was_in caches b s fresh line i t l there like (There stood away) = record { old = l; there = stood; tag = refl; frame = refl; state = refl }

pub was : (caches : List (List (Option Line))) (b s : ℕ) (fresh line : Line) (i t : ℕ) (l : Line) → b < length caches → line_in caches b s ≡ Some line → IsAlike line fresh → line_in (put caches b s fresh) i t ≡ Some l → Was caches i t l
was caches b s fresh line i t l within there like h = was_in caches b s fresh line i t l there like (put_from caches b s fresh i t l within h)

record WasCache (caches : List (List (Option Line))) (i : ℕ) (lines : List (Option Line)) : Type 0 where
  pub old : List (Option Line)
  pub there : slice_get caches i ≡ Some old
  pub size : length lines ≡ length old
  pub cache : IsCache lines

put_cache : (own : List (Option Line)) (s : ℕ) (fresh line : Line) → IsCache own → line_at own s ≡ Some line → IsAlike line fresh → IsCache (slice_set own s (Some fresh))
put_cache own s fresh line cache there like =
    let held = cache.held s line there in
    let sound : IsHeld fresh = record {
      valid = λ dead. held.valid (sym like.state ∙ dead);
      tag = subst (λ (n : ℕ). n < 2 ^ 33) (sym like.tag) held.tag;
      words = like.full;
    } in
    let place : index_of own fresh.tag ≡ s = ap (index_of own) like.tag ∙ cache.placed s line there in
    cache-set own s (Some fresh) cache (record {
      placed = λ (l : Line) (is : Some fresh ≡ Some l). ap (λ (m : Line). index_of own m.tag) (sym (some_same fresh l is)) ∙ place;
      held = λ (l : Line) (is : Some fresh ≡ Some l). subst IsHeld (some_same fresh l is) sound;
    })

was_cache : (caches : List (List (Option Line))) (b s : ℕ) (fresh line : Line) (i : ℕ) (lines : List (Option Line)) → Agrees caches → b < length caches → line_in caches b s ≡ Some line → IsAlike line fresh
    → slice_get (put caches b s fresh) i ≡ Some lines → WasCache caches i lines
was_cache caches b s fresh line i lines agree within here like h =
    let own : List (Option Line) = get_or caches b [] in
    ⊎_elim
    (λ (e : i ≡ b).
    let is : slice_set own s (Some fresh) ≡ lines =
    some_same (slice_set own s (Some fresh)) lines (sym (slice_get-set_same caches b own (slice_set own s (Some fresh)) (board caches b within)) ∙ ap (λ (n : ℕ). slice_get (put caches b s fresh) n) (sym e) ∙ h) in
    record {
      old = own;
      there = ap (λ (n : ℕ). slice_get caches n) e ∙ board caches b within;
      size = ap (λ (ls : List (Option Line)). length ls) (sym is) ∙ length-set own s (Some fresh);
      cache = subst IsCache is (put_cache own s fresh line (agree.each b own (board caches b within)) (stood caches b s line within here) like);
    })
    (λ (apart : i ≢ b).
    let kept : slice_get caches i ≡ Some lines = sym (slice_get-set_other caches b i (slice_set own s (Some fresh)) apart) ∙ h in
    record { old = lines; there = kept; size = refl; cache = agree.each i lines kept })
    (cases_eq i b)

pub length-put : (caches : List (List (Option Line))) (b s : ℕ) (fresh : Line) → length (put caches b s fresh) ≡ length caches
length-put caches b s fresh = length-set caches b (slice_set (get_or caches b []) s (Some fresh))

pub agrees-put : (caches : List (List (Option Line))) (b s : ℕ) (fresh line : Line) → Agrees caches → b < length caches → line_in caches b s ≡ Some line → IsAlike line fresh → Agrees (put caches b s fresh)
agrees-put caches b s fresh line agree within here like =
    let news : List (List (Option Line)) = put caches b s fresh in
    let back : (i t : ℕ) (l : Line) → line_in news i t ≡ Some l → Was caches i t l = λ (i t : ℕ) (l : Line) (h : line_in news i t ≡ Some l). was caches b s fresh line i t l within here like h in
    let count : length news ≡ length caches = length-put caches b s fresh in
    record {
      some_caches = subst (λ (n : ℕ). 1 ≤ n) (sym count) agree.some_caches;
      few_caches = subst (λ (n : ℕ). n ≤ 12) (sym count) agree.few_caches;
      each = λ (i : ℕ) (lines : List (Option Line)) (h : slice_get news i ≡ Some lines). (was_cache caches b s fresh line i lines agree within here like h).cache;
      sizes = λ (i j : ℕ) (x y : List (Option Line)) (hx : slice_get news i ≡ Some x) (hy : slice_get news j ≡ Some y).
          let wx = was_cache caches b s fresh line i x agree within here like hx in
          let wy = was_cache caches b s fresh line j y agree within here like hy in
          wx.size ∙ agree.sizes i j wx.old wy.old wx.there wy.there ∙ sym wy.size;
      one_frame = λ (i j t u : ℕ) (x y : Line) (hx : line_in news i t ≡ Some x) (hy : line_in news j u ≡ Some y) (same : x.tag ≡ y.tag).
          let m = back i t x hx in
          let n = back j u y hy in
          m.frame ∙ agree.one_frame i j t u m.old n.old m.there n.there (sym m.tag ∙ same ∙ n.tag) ∙ sym n.frame;
      one_place = λ (i j t u : ℕ) (x y : Line) (hx : line_in news i t ≡ Some x) (hy : line_in news j u ≡ Some y) (frames : x.frame ≡ y.frame) (places : x.tag % 128 ≡ y.tag % 128).
          let m = back i t x hx in
          let n = back j u y hy in
          m.tag ∙ agree.one_place i j t u m.old n.old m.there n.there (sym m.frame ∙ frames ∙ n.frame) (ap (λ (k : ℕ). k % 128) (sym m.tag) ∙ places ∙ ap (λ (k : ℕ). k % 128) n.tag) ∙ sym n.tag;
      one_owner = λ (i j t u : ℕ) (x y : Line) (hx : line_in news i t ≡ Some x) (hy : line_in news j u ≡ Some y) (same : x.tag ≡ y.tag) (ox : is_owned x.state ≡ true) (oy : is_owned y.state ≡ true).
          let m = back i t x hx in
          let n = back j u y hy in
          agree.one_owner i j t u m.old n.old m.there n.there (sym m.tag ∙ same ∙ n.tag) (ap is_owned (sym m.state) ∙ ox) (ap is_owned (sym n.state) ∙ oy);
      exclusive = λ (i j t u : ℕ) (x y : Line) (hx : line_in news i t ≡ Some x) (hy : line_in news j u ≡ Some y) (same : x.tag ≡ y.tag) (ex : x.state ≡ OwnedExclusive).
          let m = back i t x hx in
          let n = back j u y hy in
          agree.exclusive i j t u m.old n.old m.there n.there (sym m.tag ∙ same ∙ n.tag) (sym m.state ∙ ex);
    }

-- the logical memory, at each word but those in which the two lines differ
same_two : (caches : List (List (Option Line))) (b s i t : ℕ) (line l : Line) → line_in caches b s ≡ Some line → line_in caches i t ≡ Some l → i ≡ b → t ≡ s → l ≡ line
same_two caches b s i t line l here there e f =
    some_same l line (sym there ∙ ap (λ (n : ℕ). line_in caches n t) e ∙ ap (λ (n : ℕ). line_in caches b n) f ∙ here)

owns_old : (f p : ℕ) (caches : List (List (Option Line))) (i t : ℕ) (l : Line) (w : Was caches i t l) → OwnsAt f p l → OwnsAt f p w.old
owns_old f p caches i t l w o = record { owned = ap is_owned (sym w.state) ∙ o.owned; in_frame = sym w.frame ∙ o.in_frame; in_position = ap (λ (n : ℕ). n % 128) (sym w.tag) ∙ o.in_position }

pub owns_new : (f p : ℕ) (old l : Line) → IsAlike old l → OwnsAt f p old → OwnsAt f p l
owns_new f p old l like o = record { owned = ap is_owned like.state ∙ o.owned; in_frame = like.frame ∙ o.in_frame; in_position = ap (λ (n : ℕ). n % 128) like.tag ∙ o.in_position }

free_both : (caches : List (List (Option Line))) (b s : ℕ) (fresh line : Line) (memory : List ℕ) (k : ℕ) → b < length caches → line_in caches b s ≡ Some line → IsAlike line fresh
    → owner_of (k / 1024) (k / 8 % 128) caches ≡ None → ((i t : ℕ) (l : Line) → line_in caches i t ≡ Some l → OwnsAt (k / 1024) (k / 8 % 128) l → ⊥)
    → Owner (put caches b s fresh) (k / 1024) (k / 8 % 128) → logical_word (put caches b s fresh) memory k ≡ logical_word caches memory k
free_both caches b s fresh line memory k within here like is none (Owned i t l there o words) =
    let w = was caches b s fresh line i t l within here like there in
    absurd (none i t w.old w.there (owns_old (k / 1024) (k / 8 % 128) caches i t l w o))
free_both caches b s fresh line memory k within here like is none (Free is_new none_new) =
    ap (λ (w : Option (List ℕ)). word_or w (slice_index memory k) k) is_new ∙ sym (ap (λ (w : Option (List ℕ)). word_or w (slice_index memory k) k) is)

kept_by : (caches : List (List (Option Line))) (b s : ℕ) (fresh line : Line) (memory : List ℕ) (k : ℕ) → Agrees caches → b < length caches → line_in caches b s ≡ Some line → IsAlike line fresh
    → (OwnsAt (k / 1024) (k / 8 % 128) line → slice_index fresh.words (k % 8) ≡ slice_index line.words (k % 8))
    → Owner caches (k / 1024) (k / 8 % 128) → logical_word (put caches b s fresh) memory k ≡ logical_word caches memory k
kept_by caches b s fresh line memory k agree within here like same (Free is none) =
    free_both caches b s fresh line memory k within here like is none (owner (put caches b s fresh) (k / 1024) (k / 8 % 128))
kept_by caches b s fresh line memory k agree within here like same (Owned i t l there o is) =
    let news : List (List (Option Line)) = put caches b s fresh in
    let agree_new : Agrees news = agrees-put caches b s fresh line agree within here like in
    let f : ℕ = k / 1024 in
    let p : ℕ = k / 8 % 128 in
    let elsewhere : (i ≡ b → t ≡ s → ⊥) → logical_word news memory k ≡ logical_word caches memory k = λ (away : i ≡ b → t ≡ s → ⊥).
    logical_owned news memory k i t l agree_new (put_there caches b s fresh i t l within there away) o ∙ sym (logical_owned caches memory k i t l agree there o) in
    ⊎_elim
    (λ (e : i ≡ b).
    ⊎_elim
    (λ (u : t ≡ s).
    let mine : OwnsAt f p line = subst (λ (m : Line). OwnsAt f p m) (same_two caches b s i t line l here there e u) o in
    logical_owned news memory k b s fresh agree_new (put_here caches b s fresh line within here) (owns_new f p line fresh like mine)
    ∙ same mine ∙ sym (logical_owned caches memory k b s line agree here mine))
    (λ (u : t ≢ s). elsewhere (λ (g : i ≡ b) (v : t ≡ s). u v))
    (cases_eq t s))
    (λ (apart : i ≢ b). elsewhere (λ (g : i ≡ b) (v : t ≡ s). apart g))
    (cases_eq i b)

pub logical-put : (caches : List (List (Option Line))) (b s : ℕ) (fresh line : Line) (memory : List ℕ) (k : ℕ) → Agrees caches → b < length caches → line_in caches b s ≡ Some line → IsAlike line fresh
    → (OwnsAt (k / 1024) (k / 8 % 128) line → slice_index fresh.words (k % 8) ≡ slice_index line.words (k % 8)) → logical_word (put caches b s fresh) memory k ≡ logical_word caches memory k
logical-put caches b s fresh line memory k agree within here like same = kept_by caches b s fresh line memory k agree within here like same (owner caches (k / 1024) (k / 8 % 128))

-- where the words are the same too
pub record IsLike (old new : Line) : Type 0 where
  pub tag : new.tag ≡ old.tag
  pub frame : new.frame ≡ old.frame
  pub state : new.state ≡ old.state
  pub words : new.words ≡ old.words

pub alike : (caches : List (List (Option Line))) (b s : ℕ) (fresh line : Line) → Agrees caches → b < length caches → line_in caches b s ≡ Some line → IsLike line fresh → IsAlike line fresh
alike caches b s fresh line agree within there like = record {
  tag = like.tag;
  frame = like.frame;
  state = like.state;
  full = ap (λ (ws : List ℕ). length ws) like.words ∙ ((agree.each b (get_or caches b []) (board caches b within)).held s line (stood caches b s line within there)).words;
}

-- each line serves as before
same_in : (caches : List (List (Option Line))) (b s : ℕ) (fresh line : Line) (memory : List ℕ) (i t k : ℕ) (l : Line) → AgreesWithMemory caches memory → line_in caches b s ≡ Some line → IsLike line fresh
    → IsAt k l → Put caches b s fresh i t l → slice_index l.words (k % 8) ≡ logical_word caches memory k
same_in caches b s fresh line memory i t k l serves here like is (Here e u l_is) =
    let at_line : IsAt k line = record { frame = is.frame ∙ ap (λ (m : Line). m.frame) l_is ∙ like.frame; position = is.position ∙ ap (λ (m : Line). m.tag % 128) l_is ∙ ap (λ (n : ℕ). n % 128) like.tag } in
    ap (λ (m : Line). slice_index m.words (k % 8)) l_is ∙ ap (λ (ws : List ℕ). slice_index ws (k % 8)) like.words ∙ serves.words b s k line here at_line
same_in caches b s fresh line memory i t k l serves here like is (There stood away) = serves.words i t k l stood is

pub keeps-put : (caches : List (List (Option Line))) (b s : ℕ) (fresh line : Line) (memory : List ℕ) → Agrees caches → AgreesWithMemory caches memory → b < length caches → line_in caches b s ≡ Some line → IsLike line fresh
    → KeepsWords caches (put caches b s fresh) memory memory
keeps-put caches b s fresh line memory agree serves within here like =
    let news : List (List (Option Line)) = put caches b s fresh in
    let as_was : IsAlike line fresh = alike caches b s fresh line agree within here like in
    let word : (k : ℕ) → logical_word news memory k ≡ logical_word caches memory k =
    λ (k : ℕ). logical-put caches b s fresh line memory k agree within here as_was (λ (o : OwnsAt (k / 1024) (k / 8 % 128) line). ap (λ (ws : List ℕ). slice_index ws (k % 8)) like.words) in
    record {
      serves = record {
        within = λ (i t : ℕ) (l : Line) (h : line_in news i t ≡ Some l).
            let w = was caches b s fresh line i t l within here as_was h in
            subst (λ (n : ℕ). n * 1024 + 1024 ≤ length memory) (sym w.frame) (serves.within i t w.old w.there);
        words = λ (i t k : ℕ) (l : Line) (h : line_in news i t ≡ Some l) (is : IsAt k l).
            same_in caches b s fresh line memory i t k l serves here like is (put_from caches b s fresh i t l within h) ∙ sym (word k);
      };
      logical = same-words caches news memory memory word refl;
    }

-- the number of lines
count_in : (caches : List (List (Option Line))) (b s : ℕ) (fresh : Line) → length (get_or (put caches b s fresh) 0 []) ≡ length (get_or caches 0 [])
count_in [] b s fresh = refl
count_in (c ∷ cs) zero s fresh = length-set c s (Some fresh)
count_in (c ∷ cs) (suc b) s fresh = refl

pub count-put : (caches : List (List (Option Line))) (b s : ℕ) (fresh : Line) → line_count (put caches b s fresh) ≡ line_count caches
count-put caches b s fresh = count_in caches b s fresh
