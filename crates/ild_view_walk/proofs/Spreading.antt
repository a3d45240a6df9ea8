-- A plain piece is that of a value exactly where it opens and its parts are those of values, however much room these take.
use Rattle.std.proofs.Common.{◌≡◌, ℕ, ◌+◌, ◌≤◌, ◌<◌, List, [], ◌∷◌, ◌++◌, append_assoc, false, cond, Some, None, refl, sym, ◌∙◌, ap, subst, arith, inl, inr}
use Rattle.std.specs.Prelude.{◌⊎◌, nat_lt}
use Rattle.std.specs.Option.{option_or}
use Rattle.std.specs.List.{AllByRecursion}
use Rattle.std.proofs.lemmas.Bool.Decides.{nat_tests}
use Rattle.ild_data.proofs.AllOf.{all_append}
use Rattle.ild_data.specs.Data.{Data}
use Rattle.ild_data.specs.Tree.{IsTree}
use Rattle.ild_schema.specs.Clear.{IsSafe}
use Rattle.ild_schema.specs.Legible.{IsLegible}
use Rattle.ild_schema.specs.Slots.{form_of}
use Rattle.ild_schema.specs.Value.{Value}
use Rattle.ild_schema.specs.declared.def.TypeDef.{TypeDef}
use Rattle.ild_schema.specs.declared.row.Row.{Row}
use Rattle.ild_typed.specs.Causes.{why_of}
use Rattle.ild_typed.specs.Fits.{Fits, Front}
use Rattle.ild_typed.specs.Layers.{RepresentsSome}
use Rattle.ild_typed.specs.Pieces.{IsWhy, hamt_why, is_null_there, keys_why, needs, room_why, why_at}
use Rattle.ild_typed.specs.Refused.{AreParts, Refusal, Refused}
use Rattle.ild_typed.specs.Schema.{IsSchema}
use Rattle.ild_typed.specs.Spots.{Spot}
use Rattle.ild_typed.specs.Why as W
use Rattle.ild_typed.proofs.Rooms.{all_more, fits_more, shows_more}
use Rattle.ild_typed.proofs.WalkForms.{table_parts, table_walk}
use Rattle.ild_typed.proofs.WalkSound.{refused_sound}
use Rattle.ild_typed.proofs.WalkTotal.{parts_fit}
use Rattle.ild_layer_parts.specs.Ready.{IsIn}
use Rattle.ild_view_walk.specs.inside.Stacked.{AreSifted, IsShown}
use Rattle.ild_view_walk.proofs.Walking.{part_refused, why_refused}

-- ---- rooms that are wide enough tell the same causes

wide : (room : ℕ) (d : TypeDef) (t : Data) → needs d t ≤ room → room_why room d t ≡ None
wide room d t le = let h : nat_lt room (needs d t) ≡ false = grind (arith, nat_tests) in ap (λ b. cond b (Some W.Depth) None) h

pub same_why : (m n : ℕ) (d : TypeDef) (t : Data) → needs d t ≤ m → needs d t ≤ n → why_at m d t ≡ why_at n d t
same_why m n d t a b = ap (λ o. option_or (why_of d t) (option_or (keys_why d t) (option_or o (hamt_why d t)))) (wide m d t a ∙ sym (wide n d t b))

is_why : (m n : ℕ) (d : TypeDef) (t : Data) (w : W.Why) → why_at m d t ≡ why_at n d t → IsWhy n d t w → IsWhy m d t w
is_why m n d t w same (inl e) = inl (same ∙ e)
is_why m n d t w same (inr h) = inr (same ∙ h.0, h.1, h.2)

-- ---- one room for all

abbrev At : List Row → ℕ → Spot → Type 0
At rows room p = RepresentsSome (Fits rows room) rows p.slot p.tree

at_more : (rows : List Row) (m n : ℕ) → m ≤ n → (p : Spot) → At rows m p → At rows n p
at_more rows m n le p h = shows_more rows (Fits rows m) (Fits rows n) (λ s v k. fits_more rows m n le s v k) p.slot p.tree h

one_room : (rows : List Row) (qs : List Spot) → AllByRecursion (IsShown rows) qs → (m : ℕ) × AllByRecursion (At rows m) qs
one_room rows [] all = (0, tt)
one_room rows (q ∷ qs) all =
    let rest = one_room rows qs all.1 in
    let m : ℕ = all.0.0 + rest.0 in
    (m, (at_more rows all.0.0 m (omega arith) q all.0.1, all_more (At rows rest.0) (At rows m) (λ p h. at_more rows rest.0 m (omega arith) p h) qs rest.1))

unsifted : (rows : List Row) (m : ℕ) (ps qs : List Spot) → AreSifted rows ps qs → AllByRecursion (λ p. IsTree p.tree) ps → AllByRecursion (At rows m) qs → AllByRecursion (At rows m) ps
unsifted rows m [] qs sifted trees all = tt
unsifted rows m (p ∷ ps) qs (inl (fits, more)) trees all = (fits trees.0 m, unsifted rows m ps qs more trees.1 all)
unsifted rows m (p ∷ ps) qs (inr (rest, same, more)) trees all =
    let own : AllByRecursion (At rows m) (p ∷ rest) = subst (AllByRecursion (At rows m)) same all in (own.0, unsifted rows m ps rest more trees.1 own.1)

-- ---- one piece

module _ (rows : List Row) (schema : IsSchema rows) (legible : IsLegible rows) (p : Spot) (tree : IsTree p.tree) (safe : IsSafe rows p.slot) (there : is_null_there p.slot p.tree ≡ false) (d : TypeDef) (is : form_of rows p.slot ≡ Some d)
    (room : ℕ) (few : needs d p.tree ≤ room) where
  pub never_shown : (w : W.Why) → IsWhy room d p.tree w → IsShown rows p → ⊥
  never_shown w why (m, shows) =
      let n : ℕ = m + room in
      let refusal : Refusal = record { ty = p.slot.ty; why = w; at = [] } in
      refused_sound rows legible.clear legible.delims n 0 p.slot safe p.tree refusal
      (why_refused rows n p.slot p.tree d w there is (is_why n room d p.tree w (same_why n room d p.tree (omega (arith, few)) few) why)) (at_more rows m n (omega arith) p shows)

  module _ (none : why_at room d p.tree ≡ None) (ps : List Spot) (are : AreParts d p.tree ps) (some : 0 < needs d p.tree) where
    none_at : (n : ℕ) → needs d p.tree ≤ n → why_at n d p.tree ≡ None
    none_at n le = same_why n room d p.tree le few ∙ none

    pub shown_back : (qs : List Spot) → AreSifted rows ps qs → AllByRecursion (IsShown rows) qs → IsShown rows p
    shown_back qs sifted all =
        let trees = table_parts rows schema p.slot d is p.tree ps tree are in
        let one = one_room rows qs all in
        let n : ℕ = one.0 + needs d p.tree in
        (n, parts_fit rows p.slot p.tree tree legible.clear legible.delims d is n one.0 (none_at n (omega arith)) ps are trees refl (omega (arith, some)) (unsifted rows one.0 ps qs sifted trees one.1))

    module _ (left : ℕ) (shows : At rows (left + needs d p.tree) p) where
      part_never : (done : List Spot) (q : Spot) (rest : List Spot) → done ++ q ∷ rest ≡ ps → AllByRecursion (At rows left) done → (r : Refusal) → Refused rows left q.slot q.tree r → ⊥
      part_never done q rest e all r refused =
          refused_sound rows legible.clear legible.delims (left + needs d p.tree) 0 p.slot safe p.tree _
          (part_refused rows (left + needs d p.tree) left p.slot p.tree d there is (none_at (left + needs d p.tree) (omega arith)) done q rest (subst (AreParts d p.tree) (sym e) are) refl (omega (arith, some)) all r refused) shows

      parts_shown : (done rest qs : List Spot) → done ++ rest ≡ ps → AllByRecursion (At rows left) done → AllByRecursion (λ q. IsTree q.tree) rest → AreSifted rows rest qs → AllByRecursion (λ q. IsIn rows q.slot) qs
          → AllByRecursion (IsShown rows) qs
      parts_shown done [] qs e all trees sifted low = subst (AllByRecursion (IsShown rows)) (sym sifted) tt
      parts_shown done (q ∷ rest) qs e all trees (inl (fits, more)) low =
          parts_shown (done ++ q ∷ []) rest qs (append_assoc done (q ∷ []) rest ∙ e) (all_append (At rows left) done (q ∷ []) all (fits trees.0 left, tt)) trees.1 more low
      parts_shown done (q ∷ rest) qs e all trees (inr (others, same, more)) low =
          let lows : AllByRecursion (λ (q : Spot). IsIn rows q.slot) (q ∷ others) = subst (AllByRecursion (λ (q : Spot). IsIn rows q.slot)) same low in
          by others same (λ own. parts_shown (done ++ q ∷ []) rest others (append_assoc done (q ∷ []) rest ∙ e) (all_append (At rows left) done (q ∷ []) all (own, tt)) trees.1 more lows.1)
          (table_walk rows schema left q.slot lows.0 q.tree trees.0)
        where
          by : (others : List Spot) → qs ≡ q ∷ others → (At rows left q → AllByRecursion (IsShown rows) others) → ((f : Value) × Front rows left q.slot f q.tree) ⊎ ((r : Refusal) × Refused rows left q.slot q.tree r)
              → AllByRecursion (IsShown rows) qs
          by others same next (inl (f, front)) =
              let own : At rows left q = (f, front.fits, front.tree) in subst (AllByRecursion (IsShown rows)) (sym same) ((left, own), next own)
          by others same next (inr (r, refused)) = absurd (part_never done q rest e all r refused)

    pub shown_onward : (qs : List Spot) → AreSifted rows ps qs → AllByRecursion (λ q. IsIn rows q.slot) qs → IsShown rows p → AllByRecursion (IsShown rows) qs
    shown_onward qs sifted low (m, shows) =
        parts_shown m (at_more rows m (m + needs d p.tree) (omega arith) p shows) [] ps qs refl tt (table_parts rows schema p.slot d is p.tree ps tree are) sifted low
