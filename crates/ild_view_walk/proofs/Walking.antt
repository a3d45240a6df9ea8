-- The walk over a piece and its parts: what is known of the parts behind, and of those ahead.
use Rattle.std.proofs.Common.{◌≡◌, ℕ, zero, suc, ◌+◌, ◌-◌, ◌<◌, List, [], ◌∷◌, ◌++◌, append_assoc, length, Bool, true, false, cond, Some, None, Ok, Err, refl, sym, ◌∙◌, ap, subst, arith, inl, inr}
use Rattle.std.specs.Prelude.{◌⊎◌}
use Rattle.std.specs.List.{AllByRecursion}
use Rattle.ild_data.proofs.AllOf.{all_append}
use Rattle.ild_data.specs.Data.{Data}
use Rattle.ild_data.specs.Tree.{IsTree}
use Rattle.ild_cbor.specs.declared.why.Why.{Why}
use Rattle.ild_cbor.specs.declared.why.Why.TheVariants as Y
use Rattle.ild_layer_piece.specs.Answers.{told}
use Rattle.ild_layer_piece.specs.Pieces.{StandsFor}
use Rattle.ild_schema.specs.Kinds.{meant}
use Rattle.ild_schema.specs.Legible.{IsLegible}
use Rattle.ild_schema.specs.Slots.{form_of}
use Rattle.ild_schema.specs.declared.def.TypeDef.{TypeDef}
use Rattle.ild_schema.specs.declared.number.Slot.{Slot}
use Rattle.ild_schema.specs.declared.number.TypeNo.{TypeNo}
use Rattle.ild_schema.specs.declared.row.Row.{Row}
use Rattle.ild_schema.specs.Value.{Value}
use Rattle.ild_typed.specs.Fits.{Fits, FitsPast}
use Rattle.ild_typed.specs.Layers.{RepresentsSome}
use Rattle.ild_typed.specs.Pieces.{IsWhy, is_null_there, needs, why_at}
use Rattle.ild_typed.specs.Refused.{AreParts, FirstRefused, Refusal, Refused, RefusedPast, key_refusal, part_refusal}
use Rattle.ild_typed.specs.Schema.{IsSchema}
use Rattle.ild_typed.specs.Spots.{Spot}
use Rattle.ild_typed.specs.Why as W
use Rattle.ild_typed.proofs.Rooms.{all_more, shows_more}
use Rattle.ild_typed.proofs.WalkForms.{table_parts}
use Rattle.ild_typed.proofs.WalkTotal.{parts_fit, past_fits}
use Rattle.ild_view_walk.specs.declared.fault.ViewErr.{ViewErr}
use Rattle.ild_view_walk.specs.declared.fault.ViewErr.TheVariants as E
use Rattle.ild_view_walk.specs.declared.opening.Opening.{Opening}
use Rattle.ild_view_walk.specs.declared.opening.Stop.{Stop}
use Rattle.ild_view_walk.specs.declared.opening.Stop.TheVariants as S
use Rattle.ild_layer_parts.specs.declared.part.Part.{Part}
use Rattle.ild_layer_parts.specs.declared.parts.Parts.{Parts}
use Rattle.ild_view_walk.specs.Checks.{Checks, Faults, IsPartRefusal, IsRefusal, PartFaults, is_depth}
use Rattle.ild_view_walk.specs.inside.Opens.{HasOpened, IsStopped, OpensPiece}
use Rattle.ild_layer_parts.specs.Part.{FitsAnywhere, IsSpotted}
use Rattle.ild_layer_parts.specs.Parts.{HasLeft, SplitsOff}
use Rattle.ild_layer_parts.proofs.Showing.{form_of_slot}

-- ---- the refusal of a piece by itself

pub why_refused : (rows : List Row) (room : ℕ) (s : Slot) (t : Data) (d : TypeDef) (w : W.Why) → is_null_there s t ≡ false → form_of rows s ≡ Some d → IsWhy room d t w
    → Refused rows room s t (record { ty = s.ty; why = w; at = [] })
unfolding RefusedPast
why_refused rows zero s t d w there is why = (there, d, is, inl (w, why, refl))
why_refused rows (suc room) s t d w there is why = (there, d, is, inl (w, why, refl))

pub stopped_faults : (rows : List Row) (room : ℕ) (s : Slot) (t : Data) (why : Why) → IsStopped rows room s t (S.Why why) → IsRefusal rows room s t s.ty why
stopped_faults rows room s t why h =
    record { refusal = record { ty = s.ty; why = told why; at = [] }; refused = why_refused rows room s t h.type (told why) h.there h.form h.opens; ty_is = refl; why_is = refl }

-- ---- that of a part

past_refused : (rows : List Row) (over room n : ℕ) → n ≡ room + over → (s : Slot) (t : Data) (r : Refusal) → RefusedPast rows room zero s t r → RefusedPast rows n over s t r
unfolding RefusedPast
past_refused rows zero room n e s t r h = let same : room ≡ n = omega (arith, e) in subst (λ k. RefusedPast rows k zero s t r) same h
past_refused rows (suc over) room zero e s t r h = absurd (omega (arith, e))
past_refused rows (suc over) room (suc n) e s t r h = past_refused rows over room n (omega (arith, e)) s t r h

-- the first part with a refusal, behind those that show
first_behind : (rows : List Row) (fits : Slot → Value → Type 0) (refused : Slot → Data → Refusal → Type 0) (done : List Spot) (p : Spot) (others : List Spot) (q : Refusal)
    → AllByRecursion (λ d. RepresentsSome fits rows d.slot d.tree) done → refused p.slot p.tree q → FirstRefused fits refused rows (done ++ p ∷ others) (part_refusal p q)
first_behind rows fits refused [] p others q all h = inl (q, h, refl)
first_behind rows fits refused (d ∷ done) p others q all h = inr (all.0, first_behind rows fits refused done p others q all.1 h)

pub part_refused : (rows : List Row) (room left : ℕ) (s : Slot) (t : Data) (d : TypeDef) → is_null_there s t ≡ false → form_of rows s ≡ Some d → why_at room d t ≡ None
    → (done : List Spot) (p : Spot) (others : List Spot) → AreParts d t (done ++ p ∷ others) → left + needs d t ≡ room → left < room
    → AllByRecursion (λ x. RepresentsSome (Fits rows left) rows x.slot x.tree) done → (q : Refusal) → Refused rows left p.slot p.tree q → Refused rows room s t (part_refusal p q)
unfolding RefusedPast
part_refused rows zero left s t d there is none done p others parts sum less all q h = absurd (omega (arith, less))
part_refused rows (suc room) left s t d there is none done p others parts sum less all q h =
    let fits = FitsPast rows room (needs d t - 1) in
    let same : room ≡ left + (needs d t - 1) = omega (arith, sum, less) in
    let shown : AllByRecursion (λ (x : Spot). RepresentsSome fits rows x.slot x.tree) done =
    all_more (λ (x : Spot). RepresentsSome (Fits rows left) rows x.slot x.tree) (λ (x : Spot). RepresentsSome fits rows x.slot x.tree)
    (λ x k. shows_more rows (Fits rows left) fits (λ u v m. past_fits rows (needs d t - 1) left room same u v m) x.slot x.tree k) done all in (
      there,
      d,
      is,
      inr (
        none,
        done ++ p ∷ others,
        parts,
        first_behind rows fits (RefusedPast rows room (needs d t - 1)) done p others q shown (past_refused rows (needs d t - 1) left room same p.slot p.tree q h),
      ),
    )

-- ---- what is told of a part

key_other : (p : Spot) (q : Refusal) (why : Why) → is_depth why ≡ false → key_refusal p q (told why) ≡ record { ty = p.slot.ty; why = W.Member; at = p.at }
key_other p q Y.Kind e = refl
key_other p q Y.Name e = refl
key_other p q Y.Missing e = refl
key_other p q Y.Count e = refl
key_other p q Y.Order e = refl
key_other p q Y.Repeat e = refl
key_other p q Y.Implicit e = refl
key_other p q Y.Delimiter e = refl
key_other p q Y.Prefix e = refl
key_other p q Y.Member e = refl
key_other p q Y.Depth e = absurd cc
key_other p q Y.Trie e = refl
key_other p q Y.HashAlg e = refl
key_other p q Y.BucketSize e = refl

key_deep : (p : Spot) (q : Refusal) (why : Why) → is_depth why ≡ true → q.why ≡ told why → (key_refusal p q (told why)).ty ≡ q.ty × (key_refusal p q (told why)).why ≡ told why
key_deep p q Y.Depth e is = (refl, refl)
key_deep p q why e is = absurd cc

module _ (rows : List Row) (room : ℕ) (p : Spot) (x : Part) (ty : TypeNo) (why : Why) (spotted : IsSpotted rows x p) (h : IsRefusal rows room p.slot p.tree ty why) where
  pub as_key : x.is_key ≡ true → is_depth why ≡ false → IsPartRefusal rows room p x.slot.ty Y.Member
  as_key key other =
      let same : part_refusal p h.refusal ≡ record { ty = p.slot.ty; why = W.Member; at = p.at } =
      ap (λ b. cond b (key_refusal p h.refusal h.refusal.why) (record { ty = h.refusal.ty; why = h.refusal.why; at = p.at ++ h.refusal.at })) (sym spotted.key ∙ key)
      ∙ ap (key_refusal p h.refusal) h.why_is ∙ key_other p h.refusal why other in
      record { refusal = h.refusal; refused = h.refused; ty_is = ap (λ (r : Refusal). r.ty) same ∙ ap (λ (u : Slot). u.ty) (sym spotted.slot); why_is = ap (λ (r : Refusal). r.why) same }

  pub as_piece : (x.is_key ≡ false) ⊎ (is_depth why ≡ true) → IsPartRefusal rows room p ty why
  as_piece plain = by p.is_key refl plain where
    rest : Refusal
    rest = record { ty = h.refusal.ty; why = h.refusal.why; at = p.at ++ h.refusal.at }

    by : (b : Bool) → p.is_key ≡ b → (x.is_key ≡ false) ⊎ (is_depth why ≡ true) → IsPartRefusal rows room p ty why
    by false is k =
        let same : part_refusal p h.refusal ≡ rest = ap (λ c. cond c (key_refusal p h.refusal h.refusal.why) rest) is in
        record { refusal = h.refusal; refused = h.refused; ty_is = ap (λ (r : Refusal). r.ty) same ∙ h.ty_is; why_is = ap (λ (r : Refusal). r.why) same ∙ h.why_is }
    by true is (inl k) = absurd (cc (sym k ∙ spotted.key ∙ is))
    by true is (inr k) =
        let same : part_refusal p h.refusal ≡ key_refusal p h.refusal (told why) =
        ap (λ c. cond c (key_refusal p h.refusal h.refusal.why) rest) is ∙ ap (key_refusal p h.refusal) h.why_is in
        let deep = key_deep p h.refusal why k h.why_is in
        record { refusal = h.refusal; refused = h.refused; ty_is = ap (λ (r : Refusal). r.ty) same ∙ deep.0 ∙ h.ty_is; why_is = ap (λ (r : Refusal). r.why) same ∙ deep.1 }

-- ---- the walk

pub record Walking (rows : List Row) (room : ℕ) (s : Slot) (t : Data) (left : ℕ) (parts : Parts) : Type 0 where
  pub type : TypeDef
  pub form : form_of rows s ≡ Some type
  pub none : why_at room type t ≡ None
  pub done : List Spot
  pub rest : List Spot
  pub are : AreParts type t (done ++ rest)
  pub room_is : left + needs type t ≡ room
  pub shown : AllByRecursion (λ p. RepresentsSome (Fits rows left) rows p.slot p.tree) done
  pub has : HasLeft rows parts rest

pub walk_begins : (rows : List Row) (room : ℕ) (s : Slot) (t : Data) (d : TypeDef) (x : Opening) → form_of rows s ≡ Some d → HasOpened rows room d t x → Walking rows room s t x.room x.parts
walk_begins rows room s t d x is h =
    record { type = d; form = is; none = h.none; done = []; rest = h.spots; are = h.parts; room_is = h.room_is; shown = tt; has = h.left }

module _ (rows : List Row) (room : ℕ) (s : Slot) (t : Data) (left : ℕ) (parts : Parts) (w : Walking rows room s t left parts) where
  -- the parts that are taken show
  goes_on : (behind : Parts) (taken others : List Spot) → w.rest ≡ taken ++ others → HasLeft rows behind others → AllByRecursion (λ p. RepresentsSome (Fits rows left) rows p.slot p.tree) taken
      → Walking rows room s t left behind
  goes_on behind taken others is has all = record {
    type = w.type;
    form = w.form;
    none = w.none;
    done = w.done ++ taken;
    rest = others;
    are = subst (AreParts w.type t) (ap (λ xs. w.done ++ xs) is ∙ sym (append_assoc w.done taken others)) w.are;
    room_is = w.room_is;
    shown = all_append (λ p. RepresentsSome (Fits rows left) rows p.slot p.tree) w.done taken w.shown all;
    has = has;
  }

  pub past_nothing : IsSchema rows → IsTree t → (behind : Parts) → ((ps : List Spot) → HasLeft rows parts ps → SplitsOff rows ps None behind) → Walking rows room s t left behind
  past_nothing schema tree behind gives =
      let x = gives w.rest w.has in
      let trees : AllByRecursion (λ p. IsTree p.tree) (w.done ++ (x.taken ++ x.others)) =
      subst (λ ps. AllByRecursion (λ (p : Spot). IsTree p.tree) (w.done ++ ps)) x.is (table_parts rows schema s w.type w.form t (w.done ++ w.rest) tree w.are) in
      goes_on behind x.taken x.others x.is x.left (shown x.taken x.first (front x.taken x.others (rear w.done (x.taken ++ x.others) trees)))
    where
      rear : (xs ys : List Spot) → AllByRecursion (λ p. IsTree p.tree) (xs ++ ys) → AllByRecursion (λ p. IsTree p.tree) ys
      rear [] ys all = all
      rear (x ∷ xs) ys all = rear xs ys all.1

      front : (xs ys : List Spot) → AllByRecursion (λ p. IsTree p.tree) (xs ++ ys) → AllByRecursion (λ p. IsTree p.tree) xs
      front [] ys all = tt
      front (x ∷ xs) ys all = (all.0, front xs ys all.1)

      shown : (xs : List Spot) → AllByRecursion (FitsAnywhere rows) xs → AllByRecursion (λ p. IsTree p.tree) xs → AllByRecursion (λ p. RepresentsSome (Fits rows left) rows p.slot p.tree) xs
      shown [] all trees = tt
      shown (x ∷ xs) all trees = (all.0 trees.0 left, shown xs all.1 trees.1)

  module _ (schema : IsSchema rows) (tree : IsTree t) (x : Part) (behind : Parts) (gives : (ps : List Spot) → HasLeft rows parts ps → SplitsOff rows ps (Some x) behind) where
    pub split : SplitsOff rows w.rest (Some x) behind
    split = gives w.rest w.has

    pub at_part : AreParts w.type t (w.done ++ split.first.0 ∷ split.others)
    at_part = subst (λ ps. AreParts w.type t (w.done ++ ps)) (split.is ∙ ap (λ ps. ps ++ split.others) split.first.1) w.are

    pub part_tree : IsTree split.first.0.tree
    part_tree = behind_all w.done (table_parts rows schema s w.type w.form t (w.done ++ split.first.0 ∷ split.others) tree at_part) where
      behind_all : (done : List Spot) → AllByRecursion (λ p. IsTree p.tree) (done ++ split.first.0 ∷ split.others) → IsTree split.first.0.tree
      behind_all [] all = all.0
      behind_all (d ∷ done) all = behind_all done all.1

    pub past_part : ((u : Data) → StandsFor rows x.piece u → IsTree u → Checks rows left x.slot u (Ok tt)) → Walking rows room s t left behind
    past_part checked =
        let spotted = split.first.2 in
        let shows : RepresentsSome (Fits rows left) rows split.first.0.slot split.first.0.tree =
        subst (λ u. RepresentsSome (Fits rows left) rows u split.first.0.tree) spotted.slot (checked split.first.0.tree spotted.stands part_tree) in
        goes_on behind split.taken split.others split.is split.left (subst (AllByRecursion (λ p. RepresentsSome (Fits rows left) rows p.slot p.tree)) (sym split.first.1) (shows, tt))

    pub at_refused : is_null_there s t ≡ false → left < room → (e f : ViewErr) → ((u : Data) → StandsFor rows x.piece u → IsTree u → Checks rows left x.slot u (Err e))
        → ((p : Spot) → IsSpotted rows x p → Faults rows left p.slot p.tree e → PartFaults rows left p f) → Faults rows room s t f
    at_refused there less e f checked tells =
        let p : Spot = split.first.0 in
        let spotted = split.first.2 in
        let own : Faults rows left p.slot p.tree e = subst (λ u. Faults rows left u p.tree e) spotted.slot (checked p.tree spotted.stands part_tree) in
        by f (tells p spotted own)
      where
        by : (g : ViewErr) → PartFaults rows left split.first.0 g → Faults rows room s t g
        by E.Memory h = tt
        by (E.Shape ty why at) h = record {
          refusal = part_refusal split.first.0 h.refusal;
          refused = part_refused rows room left s t w.type there w.form w.none w.done split.first.0 split.others at_part w.room_is less w.shown h.refusal h.refused;
          ty_is = h.ty_is;
          why_is = h.why_is;
        }

  pub walk_ends : IsSchema rows → IsLegible rows → IsTree t → left < room → ((ps : List Spot) → HasLeft rows parts ps → ps ≡ []) → RepresentsSome (Fits rows room) rows s t
  walk_ends schema legible tree less none =
      let are : AreParts w.type t w.done = subst (AreParts w.type t) (ap (λ ps. w.done ++ ps) (none w.rest w.has) ∙ nothing_behind w.done) w.are in
      parts_fit rows s t tree legible.clear legible.delims w.type w.form room left w.none w.done are (table_parts rows schema s w.type w.form t w.done tree are) w.room_is less w.shown
    where
      nothing_behind : (ps : List Spot) → ps ++ [] ≡ ps
      nothing_behind [] = refl
      nothing_behind (p ∷ ps) = ap (λ qs. p ∷ qs) (nothing_behind ps)

-- ---- a piece without parts

-- ---- what is asked of a piece by itself

-- the piece is refused
pub refused_by_itself : (rows : List Row) → IsSchema rows → (room : ℕ) (s : Slot) → s.ty.0 < length rows → (t : Data) (stop : Stop) → is_null_there s t ≡ false
    → ((d : TypeDef) → meant rows s.ty.0 ≡ Some d → OpensPiece rows room d t (Err stop)) → IsStopped rows room s t stop
refused_by_itself rows schema room s low t stop there opens =
    let x = form_of_slot rows schema s low in
    record { there = there; type = x.0; form = x.1; opens = opens x.0 x.1 }

pub opened_begins : (rows : List Row) → IsSchema rows → (room : ℕ) (s : Slot) → s.ty.0 < length rows → (t : Data) (x : Opening) → ((d : TypeDef) → meant rows s.ty.0 ≡ Some d → HasOpened rows room d t x)
    → Walking rows room s t x.room x.parts
opened_begins rows schema room s low t x opens = let f = form_of_slot rows schema s low in walk_begins rows room s t f.0 x f.1 (opens f.0 f.1)
