-- A test of layers along a path: where the enclosing holders stay as they were, the changed value meets it where its last holder does.
use Rattle.std.proofs.Common.{◌≡◌, ℕ, List, [], ◌∷◌, Bool, Option, Some, None, refl, ap, sym, subst}
use Rattle.std.specs.Prelude.{option_and_then}
use Rattle.std.specs.Option.{option_map_or}
use Rattle.std.proofs.lemmas.Option.{same_Some, none-some}
use Rattle.ild_schema.specs.declared.def.TypeDef.{TypeDef}
use Rattle.ild_schema.specs.declared.row.Row.{Row}
use Rattle.ild_schema.specs.Value.{Value}
use Rattle.ild_typed.specs.At.{InSlot, seen, last_holder, changed_in}
use Rattle.ild_typed.specs.Holder.{Holder, value_of}
use Rattle.ild_typed.specs.OfType.{OfType, TestsKeys}
use Rattle.ild_typed.specs.Schema.{IsSchema}
use Rattle.ild_typed.specs.Segment.{part, set_part}
use Rattle.ild_path_edits.specs.Along.{IsFree, LayerPasses}
use Rattle.ild_path_edits.proofs.Paths.{typed_changed}
use Rattle.ild_path_judged.specs.Place.{last_in}
use Rattle.ild_path_judged.proofs.Last.{Of, kept, Free, parts_of, replaced}
use Rattle.ild_path_judged.proofs.Parts.{part_free}

-- the last holder, and the part that it is
pub last_seen : (rows : List Row) (p : InSlot) (s : List ℕ) (ss : List (List ℕ)) (l : Holder × List ℕ) → last_holder rows p s ss ≡ Some l
    → (m : InSlot × List ℕ) × (last_in rows p s ss ≡ Some m) × ((seen rows m.0, m.1) ≡ l)
last_seen rows p s [] l e = ((p, s), refl, same_Some (seen rows p, s) l e)
last_seen rows p s (t ∷ ss) l e = by (part (seen rows p) s) (λ q g. last_seen rows q t ss l g) e where
  by : (o : Option InSlot) → ((q : InSlot) → last_holder rows q t ss ≡ Some l → (m : InSlot × List ℕ) × (last_in rows q t ss ≡ Some m) × ((seen rows m.0, m.1) ≡ l))
      → option_and_then (λ q. last_holder rows q t ss) o ≡ Some l → (m : InSlot × List ℕ) × (option_and_then (λ q. last_in rows q t ss) o ≡ Some m) × ((seen rows m.0, m.1) ≡ l)
  by None rest g = absurd (none-some l g)
  by (Some q) rest g = rest q g

pub last_back : (rows : List Row) (p : InSlot) (s : List ℕ) (ss : List (List ℕ)) (m : InSlot × List ℕ) → last_in rows p s ss ≡ Some m → last_holder rows p s ss ≡ Some (seen rows m.0, m.1)
last_back rows p s [] m e = ap (λ (m : InSlot × List ℕ). Some (seen rows m.0, m.1)) (same_Some (p, s) m e)
last_back rows p s (t ∷ ss) m e = by (part (seen rows p) s) (λ q g. last_back rows q t ss m g) e where
  by : (o : Option InSlot) → ((q : InSlot) → last_in rows q t ss ≡ Some m → last_holder rows q t ss ≡ Some (seen rows m.0, m.1)) → option_and_then (λ q. last_in rows q t ss) o ≡ Some m → option_and_then (λ q. last_holder rows q t ss) o ≡ Some (seen rows m.0, m.1)
  by None rest g = absurd (none-some m g)
  by (Some q) rest g = rest q g

module _ (rows : List Row) (is_key : ℕ → List ℕ → Bool) (schema : IsSchema rows) (keys : TestsKeys rows is_key) (test : Option TypeDef → Value → Bool)
    (G : InSlot → Type 0) (typed : (p : InSlot) → G p → Of rows is_key schema keys p) (below : (p q : InSlot) (s : List ℕ) → G p → part (seen rows p) s ≡ Some q → G q) where
  abbrev FreeAt : InSlot → Type 0
  FreeAt p = Free rows is_key schema keys test p

  next_free : (p q : InSlot) (s : List ℕ) → G p → FreeAt p → part (seen rows p) s ≡ Some q → FreeAt q
  next_free p q s g a e = part_free test rows (seen rows p) s q (parts_of rows is_key schema keys test p.0 p.1 (typed p g) a).1 e

  -- what is known of a value is known of the part
  pub at_last : (ss : List (List ℕ)) (p : InSlot) (s : List ℕ) (m : InSlot × List ℕ) → G p → FreeAt p → last_in rows p s ss ≡ Some m → G m.0 × FreeAt m.0
  at_last [] p s m g a e = subst (λ (m : InSlot × List ℕ). G m.0 × FreeAt m.0) (same_Some (p, s) m e) (g, a)
  at_last (t ∷ ss) p s m g a e =
      by (part (seen rows p) s) refl e (λ q there h. at_last ss q t m (below p q s g there) (next_free p q s g a there) h)
    where
      by : (o : Option InSlot) → part (seen rows p) s ≡ o → option_and_then (λ q. last_in rows q t ss) o ≡ Some m → ((q : InSlot) → part (seen rows p) s ≡ Some q → last_in rows q t ss ≡ Some m → G m.0 × FreeAt m.0) → G m.0 × FreeAt m.0
      by None there h rest = absurd (none-some m h)
      by (Some q) there h rest = rest q there h

  module _ (f : Holder → List ℕ → Holder) (m : InSlot × List ℕ) (new : (q : InSlot) → Of rows is_key schema keys q → seen rows q ≡ seen rows m.0 → OfType rows q.0 (value_of (f (seen rows m.0) m.1))) where
    abbrev Made : Type 0
    Made = IsFree test rows (m.0).0 (value_of (f (seen rows m.0) m.1))

    changed_typed : (p : InSlot) (s : List ℕ) (ss : List (List ℕ)) → G p → last_in rows p s ss ≡ Some m → OfType rows p.0 (changed_in rows f p s ss)
    changed_typed p s ss g e = typed_changed rows is_key (λ slot v. OfType rows slot v) (kept rows is_key schema keys) f (seen rows m.0, m.1) new p s ss (typed p g) (last_back rows p s ss m e)

    at_end : (p : InSlot) (s : List ℕ) → (p, s) ≡ m → IsFree test rows p.0 (value_of (f (seen rows p) s)) ≡ Made
    at_end p s e = ap (λ (m : InSlot × List ℕ). IsFree test rows (m.0).0 (value_of (f (seen rows m.0) m.1))) e

    -- where the changed value is free, so is its last holder
    pub down : (ss : List (List ℕ)) (p : InSlot) (s : List ℕ) → G p → FreeAt p → last_in rows p s ss ≡ Some m → IsFree test rows p.0 (changed_in rows f p s ss) → Made
    down [] p s g a e h = subst (λ X. X) (at_end p s (same_Some (p, s) m e)) h
    down (t ∷ ss) p s g a e h =
        by (part (seen rows p) s) refl e h
        (λ q there last c.
        down ss q t (below p q s g there) (next_free p q s g a there) last
        ((replaced rows is_key schema keys test p q s (changed_in rows f q t ss) (typed p g) a there (changed_typed q t ss (below p q s g there) last)).0 c).1)
      where
        by : (o : Option InSlot) → part (seen rows p) s ≡ o → option_and_then (λ q. last_in rows q t ss) o ≡ Some m
            → IsFree test rows p.0 (option_map_or (λ q. value_of (set_part (seen rows p) s (changed_in rows f q t ss))) o p.1)
            → ((q : InSlot) → part (seen rows p) s ≡ Some q → last_in rows q t ss ≡ Some m → IsFree test rows p.0 (value_of (set_part (seen rows p) s (changed_in rows f q t ss))) → Made) → Made
        by None there last h rest = absurd (none-some m last)
        by (Some q) there last h rest = rest q there last h

    -- and the other way, where a part that is replaced leaves its holder as it was
    module _ (steady : (p q : InSlot) (s : List ℕ) (c : Value) → G p → FreeAt p → part (seen rows p) s ≡ Some q → OfType rows q.0 c → LayerPasses test rows p.0 (set_part (seen rows p) s c)) where
      pub up : (ss : List (List ℕ)) (p : InSlot) (s : List ℕ) → G p → FreeAt p → last_in rows p s ss ≡ Some m → Made → IsFree test rows p.0 (changed_in rows f p s ss)
      up [] p s g a e h = subst (λ X. X) (sym (at_end p s (same_Some (p, s) m e))) h
      up (t ∷ ss) p s g a e h =
          by (part (seen rows p) s) refl e
          (λ q there last.
          let c : OfType rows q.0 (changed_in rows f q t ss) = changed_typed q t ss (below p q s g there) last in
          (replaced rows is_key schema keys test p q s (changed_in rows f q t ss) (typed p g) a there c).1
          (steady p q s (changed_in rows f q t ss) g a there c, up ss q t (below p q s g there) (next_free p q s g a there) last h))
        where
          by : (o : Option InSlot) → part (seen rows p) s ≡ o → option_and_then (λ q. last_in rows q t ss) o ≡ Some m
              → ((q : InSlot) → part (seen rows p) s ≡ Some q → last_in rows q t ss ≡ Some m → IsFree test rows p.0 (value_of (set_part (seen rows p) s (changed_in rows f q t ss))))
              → IsFree test rows p.0 (option_map_or (λ q. value_of (set_part (seen rows p) s (changed_in rows f q t ss))) o p.1)
          by None there last rest = absurd (none-some m last)
          by (Some q) there last rest = rest q there last
