-- From the last holder of a path outwards: whether what each becomes breaks a delimiter.
use Rattle.std.proofs.Common.{◌≡◌, ◌<◌, ◌+◌, ℕ, zero, suc, List, [], ◌∷◌, length, take, drop, Bool, true, false, nat_eq, eqb-true, Option, Some, None, refl, sym, ◌∙◌, ap, subst, arith}
use Rattle.std.specs.List.{AllByRecursion}
use Rattle.std.specs.Option.{option_map_or}
use Rattle.std.specs.Prelude.{IsSomeAnd, IsUtf8, slice_get}
use Rattle.std.proofs.lemmas.Option.{same_Some}
use Rattle.ild_path_holder.proofs.Walking.{behind_first, passed}
use Rattle.ild_data.proofs.Options.{chain_some}
use Rattle.ild_data.specs.Data.{Data, text}
use Rattle.ild_path_delimiter.proofs.Breaking.{lets, set_breaks, text_breaks}
use Rattle.ild_path_delimiter.proofs.Freeing.{edit_free, set_free}
use Rattle.ild_path_delimiter.proofs.Quiet.{quiet, texts_break_nothing}
use Rattle.ild_path_delimiter.proofs.Reaching.{Makes, can_edit, made_typed, makes_rest, reached, text_from}
use Rattle.ild_path_delimiter.proofs.Texts.{texts_of_texts}
use Rattle.ild_path_delimiter.specs.inside.Levels.{LevelIs}
use Rattle.ild_path_delimiter.specs.TextEdits.{CanEdit, TextIs, brought, in_last}
use Rattle.ild_path_delimiter.specs.declared.delimiter.TextEdit.{TextEdit}
use Rattle.ild_path_delimiter.specs.declared.delimiter.TextEdit.TheVariants as E
use Rattle.ild_path_delimiter.specs.declared.level.Level.{Level}
use Rattle.ild_path_delimiter.specs.declared.level.Level.TheVariants as V
use Rattle.ild_path_edit.proofs.Making.{texts_from}
use Rattle.ild_path_edit.proofs.Numbering.{at_next, one, segment_there, two}
use Rattle.ild_path_edit.proofs.Stepping.{last_from, ok_same, part_made, part_typed}
use Rattle.ild_path_edit.specs.Holders.{AreHolders}
use Rattle.ild_path_edits.proofs.KeepTyped.{of_type_is_kept}
use Rattle.ild_path_edits.proofs.LayerTesting.{free_is_layered, set_is_judged}
use Rattle.ild_path_edits.specs.Along.{IsFree}
use Rattle.ild_path_edits.specs.Table.{MayStand, slot_to_set}
use Rattle.ild_path_holder.proofs.Written.{has_part}
use Rattle.ild_path_holder.specs.Along.{holder_at, is_holder}
use Rattle.ild_schema.proofs.Legibly.{legible}
use Rattle.ild_schema.specs.Value.{Value}
use Rattle.ild_schema.specs.declared.row.Row.{Row}
use Rattle.ild_typed.specs.At.{InSlot, at, changed_in, seen}
use Rattle.ild_typed.specs.Hamt.{alone}
use Rattle.ild_typed.specs.Holder.{Holder, value_of}
use Rattle.ild_typed.specs.Judged.{breaks}
use Rattle.ild_typed.specs.OfType.{OfType, TestsKeys}
use Rattle.ild_typed.specs.Represented.{represented}
use Rattle.ild_typed.specs.Schema.{IsSchema}
use Rattle.ild_typed.specs.Segment.{part, set_part}
use Rattle.ild_typed.specs.Strings.{text_in}
use Rattle.ild_view.specs.Parts.{IsPartView}
use Rattle.ild_view.specs.declared.view.View.{View}

-- so many segments lead to a holder, of which the edit at the others makes this value
pub record Changed (rows : List Row) (is_key : ℕ → List ℕ → Bool) (edit : TextEdit) (w : Value) (p : InSlot) (path : List (List ℕ)) (n : ℕ) (v : Value) : Type 0 where
  pub holder : InSlot
  pub before : n < length path
  pub leads : at rows p (take n path) ≡ Some holder
  pub typed : OfType rows holder.0 holder.1
  pub free : IsFree (breaks rows) rows holder.0 holder.1
  pub old : Data
  pub was : represented alone rows holder.0 holder.1 ≡ Some old
  pub brings : TextIs rows holder (drop n path) edit w
  pub makes : Makes rows is_key edit w holder (drop n path) v

-- what is known of it at a level
abbrev pub Claim : (rows : List Row) (is_key : ℕ → List ℕ → Bool) (edit : TextEdit) (w : Value) (p : InSlot) (path : List (List ℕ)) (n : ℕ) (v : Value) → Changed rows is_key edit w p path n v → Level → Type 0
Claim rows is_key edit w p path n v m V.Free = IsFree (breaks rows) rows m.holder.0 v × (text_in m.old ≡ None)
Claim rows is_key edit w p path n v m V.Broken = IsFree (breaks rows) rows m.holder.0 v → ⊥
Claim rows is_key edit w p path n v m (V.Text t) = represented alone rows m.holder.0 v ≡ Some (text t)

-- what a call says of the holder with a number
abbrev pub LevelClause : List View → List (List ℕ) → ℕ → Option (List ℕ) → Level → Type 0
LevelClause views segments k new l = (rows : List Row) (q : InSlot) (s : List ℕ) → IsSomeAnd (slice_get views k) (IsPartView rows q) → slice_get segments k ≡ Some s → is_holder (seen rows q) ≡ true → LevelIs rows q s new l

module _ (rows : List Row) (is_key : ℕ → List ℕ → Bool) (schema : IsSchema rows) (keys : TestsKeys rows is_key) (edit : TextEdit) (w : Value) (p : InSlot) (path : List (List ℕ)) (texts : AllByRecursion IsUtf8 path) where
  abbrev Is : ℕ → Value → Type 0
  Is n v = Changed rows is_key edit w p path n v

  abbrev Knows : (n : ℕ) (v : Value) → Is n v → Level → Type 0
  Knows n v m l = Claim rows is_key edit w p path n v m l

  -- ---- the last

  pub record Last (n : ℕ) (v : Value) (m : Is n v) : Type 0 where
    pub segment : List ℕ
    pub there : slice_get path n ≡ Some segment
    pub holds : is_holder (seen rows m.holder) ≡ true
    pub can : CanEdit rows is_key edit (seen rows m.holder) segment w
    pub is : v ≡ value_of (in_last edit w (seen rows m.holder) segment)

  pub last : (n : ℕ) (v : Value) (m : Is n v) → suc n ≡ length path → Last n v m
  last n v m end =
      let x = one path n end in
      let s = x.0 in
      let b = subst (λ ys. TextIs rows m.holder ys edit w) x.1 m.brings in
      let makes = subst (λ ys. Makes rows is_key edit w m.holder ys v) x.1 m.makes in
      let utf8 = subst (λ ys. AllByRecursion IsUtf8 ys) x.1 (texts_from path n texts) in
      let ok = reached rows is_key m.holder s [] w v edit makes in
      record {
        segment = s;
        there = segment_there path n s [] x.1;
        holds = subst (λ r. is_holder (seen rows r) ≡ true) (sym (same_Some m.holder ok.0 ok.1)) ok.2;
        can = can_edit rows is_key edit m.holder s w v utf8.0 b makes;
        is = ok_same v (changed_in rows (in_last edit w) m.holder s []) _ makes (makes_rest rows is_key m.holder s [] w v edit makes m.holder s [] refl);
      }

  pub claim_last : (n : ℕ) (v : Value) (m : Is n v) (x : Last n v m) (l : Level) → LevelIs rows m.holder x.segment (brought edit) l → Knows n v m l
  claim_last n v m x V.Free h =
      let none = h m.old m.was in
      let k = in_last edit w (seen rows m.holder) x.segment in (
        subst (IsFree (breaks rows) rows m.holder.0) (sym x.is)
            (edit_free (breaks rows) rows is_key schema keys edit m.holder x.segment w m.typed m.free x.can (λ slot y e. texts_break_nothing rows slot w y e) (quiet rows m.holder m.old k m.was x.holds none)),
        none,
      )
  claim_last n v m x V.Broken h = λ free.
      let j = h.stands in
      let y = lets rows m.holder j.0 j.1 x.holds is_key edit x.segment w x.can in
      text_breaks rows is_key schema keys w edit m.holder x.segment j.0 m.typed j.1 x.holds x.can (ap (λ k. represented alone rows m.holder.0 (value_of k)) y.same ∙ h.is y.value y.allowed) (subst (IsFree (breaks rows) rows m.holder.0) x.is free)
  claim_last n v m x (V.Text t) h =
      let j = h.stands in
      let y = lets rows m.holder j.0 j.1 x.holds is_key edit x.segment w x.can in
      ap (represented alone rows m.holder.0) x.is ∙ ap (λ k. represented alone rows m.holder.0 (value_of k)) y.same ∙ h.is y.value y.allowed

  -- ---- those before it

  pub record Step (n : ℕ) (v : Value) (m : Is n v) : Type 0 where
    pub segment : List ℕ
    pub there : slice_get path n ≡ Some segment
    pub holds : is_holder (seen rows m.holder) ≡ true
    pub next : InSlot
    pub part_is : part (seen rows m.holder) segment ≡ Some next
    pub next_holds : is_holder (seen rows next) ≡ true
    pub place : slot_to_set (seen rows m.holder) segment ≡ Some next.0
    pub stands : MayStand is_key (seen rows m.holder) segment
    pub value : Value
    pub fits : OfType rows next.0 value
    pub is : v ≡ value_of (set_part (seen rows m.holder) segment value)
    pub changed : Is (suc n) value
    pub holder_is : changed.holder ≡ next

  pub step : (n : ℕ) (v : Value) (m : Is n v) → suc n < length path → Step n v m
  step n v m less =
      let x = two path n less in
      let p0 = m.holder in
      let s = x.first in
      let t = x.second in
      let ss = x.rest in
      let b = subst (λ ys. TextIs rows p0 ys edit w) x.is m.brings in
      let makes = subst (λ ys. Makes rows is_key edit w p0 ys v) x.is m.makes in
      let utf8 = subst (λ ys. AllByRecursion IsUtf8 ys) x.is (texts_from path n texts) in
      let ok = reached rows is_key p0 s (t ∷ ss) w v edit makes in
      let y = chain_some (λ q. holder_at rows q t ss) (part (seen rows p0) s) ok.0 ok.1 in
      let q : InSlot = y.0 in
      let f : Holder → List ℕ → Holder = in_last edit w in
      let c : Value = changed_in rows f q t ss in
      let kept = of_type_is_kept rows is_key schema keys in
      let it = part_typed rows is_key schema keys p0 q s m.typed y.1 in
      let below : Makes rows is_key edit w q (t ∷ ss) c = makes_rest rows is_key p0 s (t ∷ ss) w v edit makes q t ss (sym (last_from rows p0 q s t ss y.1)) in
      let brings = text_from rows p0 q s t ss edit w y.1 b in
      let new = made_typed rows is_key schema keys edit w q (t ∷ ss) c utf8.1 brings it below in
      let same : v ≡ changed_in rows f p0 s (t ∷ ss) = ok_same v (changed_in rows f p0 s (t ∷ ss)) _ makes (makes_rest rows is_key p0 s (t ∷ ss) w v edit makes p0 s (t ∷ ss) refl) in
      let made = part_made rows is_key schema keys p0 q s m.old m.typed y.1 m.was in
      let rest : drop (suc n) path ≡ t ∷ ss = behind_first path n s (t ∷ ss) x.is in
      record {
        segment = s;
        there = segment_there path n s (t ∷ ss) x.is;
        holds = has_part (seen rows p0) s q y.1;
        next = q;
        part_is = y.1;
        next_holds = passed rows q ok.0 t ss y.2 ok.2;
        place = kept.slots p0 q s m.typed y.1;
        stands = kept.there p0 q s m.typed y.1;
        value = c;
        fits = new;
        is = same ∙ ap (λ o. option_map_or (λ r. value_of (set_part (seen rows p0) s (changed_in rows f r t ss))) o p0.1) y.1;
        changed = record {
          holder = q;
          before = less;
          leads = at_next rows path n p p0 q s (t ∷ ss) m.leads x.is y.1;
          typed = it;
          free = (free_is_layered rows is_key (breaks rows) schema keys).parts tt p0 q s m.typed m.free y.1;
          old = made.0;
          was = made.1;
          brings = subst (λ ys. TextIs rows q ys edit w) (sym rest) brings;
          makes = subst (λ ys. Makes rows is_key edit w q ys c) (sym rest) below;
        };
        holder_is = refl;
      }

  -- the part's own freedom, in the slot of the part
  abbrev part_free : (n : ℕ) (v : Value) (m : Is n v) (x : Step n v m) → Type 0
  part_free n v m x = IsFree (breaks rows) rows x.next.0 x.value

  up : (n : ℕ) (v : Value) (m : Is n v) (x : Step n v m) → text_in m.old ≡ None → part_free n v m x → IsFree (breaks rows) rows m.holder.0 v
  up n v m x none free =
      subst (IsFree (breaks rows) rows m.holder.0) (sym x.is)
      (set_free (breaks rows) rows is_key schema keys m.holder x.segment x.next.0 x.value m.typed m.free x.place x.stands x.fits free (quiet rows m.holder m.old (set_part (seen rows m.holder) x.segment x.value) m.was x.holds none))

  down : (n : ℕ) (v : Value) (m : Is n v) (x : Step n v m) → IsFree (breaks rows) rows m.holder.0 v → part_free n v m x
  down n v m x free =
      ((set_is_judged rows is_key (breaks rows) schema keys m.holder x.segment x.next.0 x.value m.typed m.free x.place x.stands x.fits).0 (subst (IsFree (breaks rows) rows m.holder.0) x.is free)).1

  pub shown_there : (n : ℕ) (v : Value) (m : Is n v) (x : Step n v m) (j : List ℕ) → represented alone rows x.changed.holder.0 x.value ≡ Some (text j) → represented alone rows x.next.0 x.value ≡ Some (text j)
  shown_there n v m x j e = subst (λ (q : InSlot). represented alone rows q.0 x.value ≡ Some (text j)) x.holder_is e

  pub claim_above : (n : ℕ) (v : Value) (m : Is n v) (x : Step n v m) (j : List ℕ) (l : Level) → represented alone rows x.next.0 x.value ≡ Some (text j) → LevelIs rows m.holder x.segment (Some j) l → Knows n v m l
  claim_above n v m x j V.Free shown h = let none = h m.old m.was in (up n v m x none (texts_break_nothing rows x.next.0 x.value j shown), none)
  claim_above n v m x j V.Broken shown h =
      λ free. set_breaks rows is_key schema keys x.value m.holder x.segment h.stands.0 x.next.0 j m.typed h.stands.1 x.holds x.place x.stands x.fits shown (h.is (Some x.value) (x.next.0, x.place, shown)) (subst (IsFree (breaks rows) rows m.holder.0) x.is free)
  claim_above n v m x j (V.Text t) shown h = ap (represented alone rows m.holder.0) x.is ∙ h.is (Some x.value) (x.next.0, x.place, shown)

  -- ---- outwards

  pub free_out : (m n : ℕ) (v : Value) (c : Is m v) → m + n < length path → ((u : Value) (d : Is (m + n) u) → Knows (m + n) u d V.Free) → IsFree (breaks rows) rows c.holder.0 v × (text_in c.old ≡ None)
  free_out m zero v c less all = let same : m + 0 ≡ m = omega arith in (subst (λ (k : ℕ). (d : Is k v) → Knows k v d V.Free) same (λ d. all v d)) c
  free_out m (suc n) v c less all =
      let x = step m v c (omega (arith, less)) in
      let same : m + suc n ≡ suc m + n = omega arith in
      let more = free_out (suc m) n x.value x.changed (omega (arith, less)) (subst (λ (k : ℕ). (u : Value) (d : Is k u) → Knows k u d V.Free) same all) in
      let free = subst (λ (q : InSlot). IsFree (breaks rows) rows q.0 x.value) x.holder_is more.0 in
      let was = subst (λ (q : InSlot). represented alone rows q.0 q.1 ≡ Some x.changed.old) x.holder_is x.changed.was in
      let none = texts_of_texts rows (legible rows schema.accepted) c.holder x.next x.segment c.old x.changed.old c.was was x.part_is x.next_holds more.1 in
      (up m v c x none free, none)

  pub broken_out : (m n : ℕ) (v : Value) (c : Is m v) → m + n < length path → ((u : Value) (d : Is (m + n) u) → Knows (m + n) u d V.Broken) → IsFree (breaks rows) rows c.holder.0 v → ⊥
  broken_out m zero v c less all = let same : m + 0 ≡ m = omega arith in (subst (λ (k : ℕ). (d : Is k v) → Knows k v d V.Broken) same (λ d. all v d)) c
  broken_out m (suc n) v c less all = λ free.
      let x = step m v c (omega (arith, less)) in
      let same : m + suc n ≡ suc m + n = omega arith in
      broken_out (suc m) n x.value x.changed (omega (arith, less)) (subst (λ (k : ℕ). (u : Value) (d : Is k u) → Knows k u d V.Broken) same all)
      (subst (λ (q : InSlot). IsFree (breaks rows) rows q.0 x.value) (sym x.holder_is) (down m v c x free))

  -- ---- what is known of calls

  module _ (all : List View) (views : AreHolders rows p path all) where
    pub last_done : (n : ℕ) (v : Value) (m : Is n v) (l : Level) → suc n ≡ length path → LevelClause all path n (brought edit) l → Knows n v m l
    last_done n v m l end clause =
        let x = last n v m end in
        claim_last n v m x l (clause rows m.holder x.segment (views n m.holder m.before m.leads) x.there x.holds)

    pub above_done : (n : ℕ) (v : Value) (m : Is n v) (l : Level) (t : List ℕ) → suc n < length path → ((u : Value) (d : Is (suc n) u) → Knows (suc n) u d (V.Text t)) → LevelClause all path n (Some t) l → Knows n v m l
    above_done n v m l t less known clause =
        let x = step n v m less in
        claim_above n v m x t l (shown_there n v m x t (known x.value x.changed)) (clause rows m.holder x.segment (views n m.holder m.before m.leads) x.there x.holds)

  pub free_root : (n : ℕ) (v : Value) (c : Is 0 v) → n < length path → ((u : Value) (d : Is n u) → Knows n u d V.Free) → IsFree (breaks rows) rows c.holder.0 v
  free_root n v c less all =
      let same : n ≡ 0 + n = omega arith in
      (free_out 0 n v c (omega (arith, less)) (subst (λ (k : ℕ). (u : Value) (d : Is k u) → Knows k u d V.Free) same all)).0

  pub broken_root : (n : ℕ) (v : Value) (c : Is 0 v) → n < length path → ((u : Value) (d : Is n u) → Knows n u d V.Broken) → IsFree (breaks rows) rows c.holder.0 v → ⊥
  broken_root n v c less all =
      let same : n ≡ 0 + n = omega arith in
      broken_out 0 n v c (omega (arith, less)) (subst (λ (k : ℕ). (u : Value) (d : Is k u) → Knows k u d V.Broken) same all)

  pub text_root : (n : ℕ) (v : Value) (c : Is 0 v) (t : List ℕ) → n ≡ 0 → ((u : Value) (d : Is n u) → Knows n u d (V.Text t)) → IsFree (breaks rows) rows c.holder.0 v
  text_root n v c t zero_is all = texts_break_nothing rows c.holder.0 v t (subst (λ (k : ℕ). (u : Value) (d : Is k u) → Knows k u d (V.Text t)) zero_is all v c)

-- ---- the root

pub not_empty : (xs : List (List ℕ)) → nat_eq (length xs) 0 ≡ false → 0 < length xs
not_empty [] e = absurd cc
not_empty (x ∷ xs) e = omega arith

pub is_nil : (xs : List (List ℕ)) → nat_eq (length xs) 0 ≡ true → xs ≡ []
is_nil [] e = refl
is_nil (x ∷ xs) e = let z = eqb-true (length (x ∷ xs)) 0 e in absurd (omega (arith, z))

pub not_free : (b : Bool) → (b ≡ false → ⊥) → true ≡ b
not_free true h = refl
not_free false h = absurd (h refl)

pub root_free : (rows : List Row) (is_key : ℕ → List ℕ → Bool) (edit : TextEdit) (p : InSlot) (w c : Value) → TextIs rows p [] edit w → Makes rows is_key edit w p [] c → IsFree (breaks rows) rows p.0 c
root_free rows is_key (E.Set t) p w c b makes =
    let same : w ≡ c = cc makes in
    subst (IsFree (breaks rows) rows p.0) same (texts_break_nothing rows p.0 w t.now (b p.0 refl).1)
root_free rows is_key (E.Insert t) p w c b makes = absurd cc
root_free rows is_key E.Delete p w c b makes = absurd cc
