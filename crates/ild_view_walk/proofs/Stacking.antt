-- Lists of parts that are still to be opened, and the spots for which they stand.
use Rattle.std.proofs.Common.{◌≡◌, ℕ, ◌<◌, ◌≤◌, List, [], ◌∷◌, ◌++◌, append_assoc, append-nil, Err, Bool, true, false, Some, None, refl, sym, ◌∙◌, ap, subst, arith, inl, inr}
use Rattle.std.specs.Prelude.{◌↔◌, IfOk, Result, Ok}
use Rattle.std.specs.declared.alloc.AllocError.{AllocError}
use Rattle.std.specs.Borrow.{Bor}
use Rattle.std.specs.List.{AllByRecursion}
use Rattle.ild_data.proofs.AllOf.{all_split, all_append}
use Rattle.ild_data.specs.Data as T
use Rattle.ild_data.specs.Tree.{IsTree}
use Rattle.ild_schema.specs.Kinds.{meant}
use Rattle.ild_schema.specs.Legible.{IsLegible}
use Rattle.ild_schema.specs.Slots.{plainly}
use Rattle.ild_schema.specs.declared.def.TypeDef.{TypeDef}
use Rattle.ild_schema.specs.declared.number.Slot.{Slot}
use Rattle.ild_schema.specs.declared.row.Row.{Row}
use Rattle.ild_schema.specs.Copies.{base}
use Rattle.ild_typed.specs.Pieces.{is_null_there, needs, why_at}
use Rattle.ild_typed.specs.Refused.{AreParts}
use Rattle.ild_typed.specs.Schema.{IsSchema}
use Rattle.ild_typed.specs.Spots.{Spot, value_spot}
use Rattle.ild_typed.proofs.WalkForms.{table_parts}
use Rattle.ild_cbor.specs.declared.why.Why.{Why}
use Rattle.ild_layer_piece.specs.Answers.{told}
use Rattle.ild_layer_piece.specs.Pieces.{IsNumbered, StandsFor}
use Rattle.ild_cbor.specs.declared.piece.Piece.TheVariants as P
use Rattle.ild_schema.specs.declared.number.TypeNo.{TypeNo}
use Rattle.ild_view_walk.specs.declared.opening.Opening.{Opening}
use Rattle.ild_view_walk.specs.declared.opening.Stop.TheVariants as S
use Rattle.ild_layer_parts.specs.declared.part.Part.{Part}
use Rattle.ild_layer_parts.specs.declared.parts.Parts.{Parts}
use Rattle.ild_view_walk.specs.inside.Opens.{HasOpened, OpensPiece}
use Rattle.ild_layer_parts.specs.Part.{FitsAnywhere, IsSpotted}
use Rattle.ild_layer_parts.specs.Parts.{HasLeft, SplitsOff}
use Rattle.ild_layer_parts.specs.Ready.{AreReady, AreReadyBoth, IsIn, IsInlined, IsReady}
use Rattle.ild_view_walk.specs.inside.Stacked.{Adds, PartsAreAt, AreSifted, PartIsAt, IsPlain, IsShown, Replaces}
use Rattle.ild_view_walk.proofs.Flatness.{IsFine, few_levels, parts_fine}
use Rattle.ild_view_walk.proofs.Spreading.{never_shown, shown_back, shown_onward}
use Rattle.ild_layer_parts.proofs.Showing.{form_of_slot, null_checks, plain_shows}

-- ---- lists of spots

sifted_join : (rows : List Row) (ps qs rs ss : List Spot) → AreSifted rows ps qs → AreSifted rows rs ss → AreSifted rows (ps ++ rs) (qs ++ ss)
sifted_join rows [] qs rs ss a b = subst (λ xs. AreSifted rows rs (xs ++ ss)) (sym a) b
sifted_join rows (p ∷ ps) qs rs ss (inl (fits, more)) b = inl (fits, sifted_join rows ps qs rs ss more b)
sifted_join rows (p ∷ ps) qs rs ss (inr (rest, same, more)) b = inr (rest ++ ss, ap (λ xs. xs ++ ss) same, sifted_join rows ps rest rs ss more b)

sifted_none : (rows : List Row) (ps : List Spot) → AllByRecursion (FitsAnywhere rows) ps → AreSifted rows ps []
sifted_none rows [] all = refl
sifted_none rows (p ∷ ps) all = inl (all.0, sifted_none rows ps all.1)

sifted_plain : (rows : List Row) (ps qs : List Spot) → AreSifted rows ps qs → AllByRecursion (IsPlain rows) ps → AllByRecursion (IsPlain rows) qs
sifted_plain rows [] qs sifted all = subst (AllByRecursion (IsPlain rows)) (sym sifted) tt
sifted_plain rows (p ∷ ps) qs (inl (fits, more)) all = sifted_plain rows ps qs more all.1
sifted_plain rows (p ∷ ps) qs (inr (rest, same, more)) all = subst (AllByRecursion (IsPlain rows)) (sym same) (all.0, sifted_plain rows ps rest more all.1)

held_join : (rows : List Row) (xs : List Part) (ps : List Spot) (ys : List Part) (qs : List Spot) → PartsAreAt rows xs ps → PartsAreAt rows ys qs → PartsAreAt rows (xs ++ ys) (ps ++ qs)
held_join rows [] [] ys qs a b = b
held_join rows [] (p ∷ ps) ys qs a b = absurd a
held_join rows (x ∷ xs) [] ys qs a b = absurd a
held_join rows (x ∷ xs) (p ∷ ps) ys qs a b = (a.0, held_join rows xs ps ys qs a.1 b)

held_low : (rows : List Row) (xs : List Part) (ps : List Spot) → PartsAreAt rows xs ps → AllByRecursion (λ p. IsIn rows p.slot) ps
held_low rows [] [] h = tt
held_low rows [] (p ∷ ps) h = absurd h
held_low rows (x ∷ xs) [] h = absurd h
held_low rows (x ∷ xs) (p ∷ ps) h = (subst (IsIn rows) h.0.spotted.slot h.0.ready.within, held_low rows xs ps h.1)

-- ---- parts are added

pub record Adding (rows : List Row) (ps : List Spot) (old new : List Part) (left : Parts) : Type 0 where
  pub done : List Spot
  pub rest : List Spot
  pub are : ps ≡ done ++ rest
  pub adds : Adds rows done old new
  pub has : HasLeft rows left rest
  pub ready : AreReady rows left

pub adding_begins : (rows : List Row) (ps : List Spot) (old : List Part) (left : Parts) → HasLeft rows left ps → AreReady rows left → Adding rows ps old old left
adding_begins rows ps old left has ready =
    record { done = []; rest = ps; are = refl; adds = record { added = []; is = sym (append-nil old); spots = []; sifted = refl; held = tt }; has = has; ready = ready }

module _ (rows : List Row) (ps : List Spot) (old new : List Part) (left behind : Parts) (w : Adding rows ps old new left) where
  pub adding_part : (x : Part) → ((qs : List Spot) → HasLeft rows left qs → SplitsOff rows qs (Some x) behind) → AreReadyBoth rows (Some x) behind → (pushed : List Part) → pushed ≡ new ++ x ∷ [] → Adding rows ps old pushed behind
  adding_part x gives ready pushed more =
      let y = gives w.rest w.has in
      let p : Spot = y.first.0 in
      record {
        done = w.done ++ y.taken;
        rest = y.others;
        are = w.are ∙ ap (λ qs. w.done ++ qs) y.is ∙ sym (append_assoc w.done y.taken y.others);
        adds = record {
          added = w.adds.added ++ x ∷ [];
          is = more ∙ ap (λ xs. xs ++ x ∷ []) w.adds.is ∙ append_assoc old w.adds.added (x ∷ []);
          spots = w.adds.spots ++ p ∷ [];
          sifted = sifted_join rows w.done w.adds.spots y.taken (p ∷ []) w.adds.sifted (subst (λ qs. AreSifted rows qs (p ∷ [])) (sym y.first.1) (inr ([], refl, refl)));
          held = held_join rows w.adds.added w.adds.spots (x ∷ []) (p ∷ []) w.adds.held (record { spotted = y.first.2; ready = ready.0 }, tt);
        };
        has = y.left;
        ready = ready.1;
      }

  pub adding_nothing : ((qs : List Spot) → HasLeft rows left qs → SplitsOff rows qs None behind) → AreReadyBoth rows None behind → Adding rows ps old new behind
  adding_nothing gives ready =
      let y = gives w.rest w.has in
      record {
        done = w.done ++ y.taken;
        rest = y.others;
        are = w.are ∙ ap (λ qs. w.done ++ qs) y.is ∙ sym (append_assoc w.done y.taken y.others);
        adds = record {
          added = w.adds.added;
          is = w.adds.is;
          spots = w.adds.spots;
          sifted = subst (AreSifted rows (w.done ++ y.taken)) (append-nil w.adds.spots) (sifted_join rows w.done w.adds.spots y.taken [] w.adds.sifted (sifted_none rows y.taken y.first));
          held = w.adds.held;
        };
        has = y.left;
        ready = ready.1;
      }

  pub adding_ends : ((qs : List Spot) → HasLeft rows left qs → qs ≡ []) → Adds rows ps old new
  adding_ends none =
      let all : w.done ≡ ps = sym (w.are ∙ ap (λ qs. w.done ++ qs) (none w.rest w.has) ∙ append-nil w.done) in
      subst (λ qs. Adds rows qs old new) all w.adds

-- ---- a piece is opened

module _ (rows : List Row) (schema : IsSchema rows) (legible : IsLegible rows) (x : Part) (p : Spot) (spotted : IsSpotted rows x p) (plain : IsPlain rows p) (low : IsIn rows x.slot) (old : List Part) where
  own_low : IsIn rows p.slot
  own_low = subst (IsIn rows) spotted.slot low

  own_form : (P : TypeDef → Type 0) → ((d : TypeDef) → meant rows x.slot.ty.0 ≡ Some d → P d) → (d : TypeDef) → meant rows p.slot.ty.0 ≡ Some d → P d
  own_form P opens d e = opens d (ap (λ (s : Slot). meant rows s.ty.0) spotted.slot ∙ e)

  own_null : (b : Bool) → is_null_there x.slot p.tree ≡ b → is_null_there p.slot p.tree ≡ b
  own_null b e = ap (λ s. is_null_there s p.tree) (sym spotted.slot) ∙ e

  shown_replaces : IsShown rows p → Replaces rows p old old
  shown_replaces shown = record { added = []; is = sym (append-nil old); spots = []; held = tt; plain = tt; onward = λ h. tt; back = λ h. shown }

  pub null_replaces : is_null_there x.slot p.tree ≡ true → Replaces rows p old old
  null_replaces e = shown_replaces (0, null_checks rows 0 p.slot p.tree plain.tree (own_null true e))

  pub bare_replaces : (room : ℕ) → ((d : TypeDef) → meant rows x.slot.ty.0 ≡ Some d → (why_at room d p.tree ≡ None) × AreParts d p.tree []) → Replaces rows p old old
  bare_replaces room opens = shown_replaces (room, plain_shows rows schema legible room p.slot own_low p.tree plain.tree (own_form (λ d. (why_at room d p.tree ≡ None) × AreParts d p.tree []) opens))

  module _ (room : ℕ) (wide : 5 ≤ room) (there : is_null_there x.slot p.tree ≡ false) where
    few : (d : TypeDef) → needs d p.tree ≤ room
    few d = let h = few_levels d p.tree plain.flat in omega (arith, h, wide)

    pub refused_never : (w : Why) → ((d : TypeDef) → meant rows x.slot.ty.0 ≡ Some d → OpensPiece rows room d p.tree (Err (S.Why w))) → IsShown rows p → ⊥
    refused_never w opens =
        let f = form_of_slot rows schema p.slot own_low in
        never_shown rows schema legible p plain.tree plain.safe (own_null false there) f.0 f.1 room (few f.0) (told w) (own_form (λ d. OpensPiece rows room d p.tree (Err (S.Why w))) opens f.0 f.1)

    both_plain : (ps : List Spot) → AllByRecursion (λ q. IsTree q.tree) ps → AllByRecursion (IsFine rows) ps → AllByRecursion (IsPlain rows) ps
    both_plain [] trees fine = tt
    both_plain (q ∷ ps) trees fine = (record { tree = trees.0; flat = fine.0.0; safe = fine.0.1 }, both_plain ps trees.1 fine.1)

    pub parts_replace : (o : Opening) → ((d : TypeDef) → meant rows x.slot.ty.0 ≡ Some d → HasOpened rows room d p.tree o) → o.room < room → (new : List Part) → ((ps : List Spot) → HasLeft rows o.parts ps → Adds rows ps old new) → Replaces rows p old new
    parts_replace o opens less new adds =
        let f = form_of_slot rows schema p.slot own_low in
        let d : TypeDef = f.0 in
        let h : HasOpened rows room d p.tree o = own_form (λ d. HasOpened rows room d p.tree o) opens d f.1 in
        let a : Adds rows h.spots old new = adds h.spots h.left in
        let some : 0 < needs d p.tree = let sum = h.room_is in omega (arith, sum, less) in
        let all = both_plain h.spots (table_parts rows schema p.slot d f.1 p.tree h.spots plain.tree h.parts) (parts_fine rows d p.tree h.spots (legible.clear.parts (base rows p.slot.ty.0) d f.1) plain.flat h.parts) in
        record {
          added = a.added;
          is = a.is;
          spots = a.spots;
          held = a.held;
          plain = sifted_plain rows h.spots a.spots a.sifted all;
          onward = shown_onward rows schema legible p plain.tree plain.safe (own_null false there) d f.1 room (few d) h.none h.spots h.parts some a.spots a.sifted (held_low rows a.added a.spots a.held);
          back = shown_back rows schema legible p plain.tree plain.safe (own_null false there) d f.1 room (few d) h.none h.spots h.parts some a.spots a.sifted;
        }

-- ---- the list that is left

pub record Going (rows : List Row) (ps : List Spot) (left : List Part) : Type 0 where
  pub spots : List Spot
  pub held : PartsAreAt rows left spots
  pub plain : AllByRecursion (IsPlain rows) spots
  pub onward : AllByRecursion (IsShown rows) ps → AllByRecursion (IsShown rows) spots
  pub back : AllByRecursion (IsShown rows) spots → AllByRecursion (IsShown rows) ps

pub going_begins : (rows : List Row) (ps : List Spot) (left : List Part) → PartsAreAt rows left ps → AllByRecursion (IsPlain rows) ps → Going rows ps left
going_begins rows ps left held plain = record { spots = ps; held = held; plain = plain; onward = λ h. h; back = λ h. h }

record Last (rows : List Row) (xs : List Part) (x : Part) (ps : List Spot) : Type 0 where
  pub before : List Spot
  pub last : Spot
  pub is : ps ≡ before ++ last ∷ []
  pub held : PartsAreAt rows xs before
  pub own : PartIsAt rows x last

held_last : (rows : List Row) (xs : List Part) (x : Part) (ps : List Spot) → PartsAreAt rows (xs ++ x ∷ []) ps → Last rows xs x ps
held_last rows [] x [] h = absurd h
held_last rows [] x (p ∷ []) h = record { before = []; last = p; is = refl; held = tt; own = h.0 }
held_last rows [] x (p ∷ q ∷ ps) h = absurd h.1
held_last rows (y ∷ xs) x [] h = absurd h
held_last rows (y ∷ xs) x (p ∷ ps) h =
    let r = held_last rows xs x ps h.1 in
    record { before = p ∷ r.before; last = r.last; is = ap (λ qs. p ∷ qs) r.is; held = (h.0, r.held); own = r.own }

module _ (rows : List Row) (ps : List Spot) (left front : List Part) (x : Part) (popped : left ≡ front ++ x ∷ []) (w : Going rows ps left) where
  last_of : Last rows front x w.spots
  last_of = held_last rows front x w.spots (subst (λ xs. PartsAreAt rows xs w.spots) popped w.held)

  plain_of : AllByRecursion (IsPlain rows) last_of.before × AllByRecursion (IsPlain rows) (last_of.last ∷ [])
  plain_of = all_split (IsPlain rows) last_of.before (last_of.last ∷ []) (subst (AllByRecursion (IsPlain rows)) last_of.is w.plain)

  shown_of : AllByRecursion (IsShown rows) ps → AllByRecursion (IsShown rows) last_of.before × AllByRecursion (IsShown rows) (last_of.last ∷ [])
  shown_of h = all_split (IsShown rows) last_of.before (last_of.last ∷ []) (subst (AllByRecursion (IsShown rows)) last_of.is (w.onward h))

  pub going_on : (new : List Part) → ((p : Spot) → IsSpotted rows x p → IsPlain rows p → Replaces rows p front new) → Going rows ps new
  going_on new replaces =
      let l = last_of in
      let r = replaces l.last l.own.spotted plain_of.1.0 in
      record {
        spots = l.before ++ r.spots;
        held = subst (λ xs. PartsAreAt rows xs (l.before ++ r.spots)) (sym r.is) (held_join rows front l.before r.added r.spots l.held r.held);
        plain = all_append (IsPlain rows) l.before r.spots plain_of.0 r.plain;
        onward = λ h. let both = shown_of h in all_append (IsShown rows) l.before r.spots both.0 (r.onward both.1.0);
        back = λ h. let both = all_split (IsShown rows) l.before r.spots h in
            w.back (subst (AllByRecursion (IsShown rows)) (sym l.is) (all_append (IsShown rows) l.before (l.last ∷ []) both.0 (r.back both.1, tt)));
      }

  pub going_refused : ((p : Spot) → IsSpotted rows x p → IsPlain rows p → IsShown rows p → ⊥) → AllByRecursion (IsShown rows) ps → ⊥
  going_refused never h = never last_of.last last_of.own.spotted plain_of.1.0 (shown_of h).1.0

pub going_done : (rows : List Row) (ps : List Spot) (left : List Part) → left ≡ [] → Going rows ps left → AllByRecursion (IsShown rows) ps
going_done rows ps left none w = w.back (by w.spots (subst (λ xs. PartsAreAt rows xs w.spots) none w.held)) where
  by : (qs : List Spot) → PartsAreAt rows [] qs → AllByRecursion (IsShown rows) qs
  by [] h = tt
  by (q ∷ qs) h = absurd h

-- ---- each part is ready

pub ready_more : (rows : List Row) (xs : List Part) (x : Part) (new : List Part) → new ≡ xs ++ x ∷ [] → IsReady rows x → AllByRecursion (IsReady rows) xs → AllByRecursion (IsReady rows) new
ready_more rows xs x new is own all = subst (AllByRecursion (IsReady rows)) (sym is) (all_append (IsReady rows) xs (x ∷ []) all (own, tt))

pub ready_last : (rows : List Row) (left front : List Part) (x : Part) → left ≡ front ++ x ∷ [] → AllByRecursion (IsReady rows) left → AllByRecursion (IsReady rows) front × IsReady rows x
ready_last rows left front x is all = let r = all_split (IsReady rows) front (x ∷ []) (subst (AllByRecursion (IsReady rows)) is all) in (r.0, r.1.0)

-- ---- one text

pub text_held : (rows : List Row) (ty : TypeNo) (s : Bor (List ℕ)) (x : Part) → x.slot ≡ plainly ty → x.is_key ≡ false → x.piece ≡ P.Text s → IsIn rows (plainly ty) → PartIsAt rows x (value_spot (plainly ty) (T.text s.now) [])
text_held rows ty s x slot key piece low = record {
  spotted = record { slot = slot; key = key; stands = subst (λ q. StandsFor rows q (T.text s.now)) (sym piece) refl };
  ready = record { within = subst (IsIn rows) (sym slot) low; numbered = subst (IsNumbered rows) (sym piece) tt; inlined = subst (IsInlined rows x.slot) (sym piece) (λ e. never e) };
}
  where
    never : {A : Type 0} → false ≡ true → A
    never e = absurd cc

pub one_held : (rows : List Row) (x : Part) (p : Spot) (items : List Part) → items ≡ x ∷ [] → PartIsAt rows x p → IsPlain rows p → (r : Result Bool AllocError)
    → IfOk r (λ b. (ps : List Spot) → PartsAreAt rows items ps → AllByRecursion (IsPlain rows) ps → (b ≡ true) ↔ AllByRecursion (IsShown rows) ps) → IfOk r (λ b. (b ≡ true) ↔ IsShown rows p)
one_held rows x p items is held plain (Ok b) h =
    let both = h (p ∷ []) (subst (λ xs. PartsAreAt rows xs (p ∷ [])) (sym is) (held, tt)) (plain, tt) in ((λ e. (both.0 e).0), (λ shown. both.1 (shown, tt)))
one_held rows x p items is held plain (Err e) h = tt
