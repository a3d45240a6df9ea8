-- Along a path: the steps so far, and those that are still to come.
use Rattle.std.proofs.Common.{◌≡◌, ◌<◌, ◌≤◌, ◌+◌, ◌-◌, ℕ, zero, suc, List, [], ◌∷◌, ◌++◌, append_assoc, true, false, drop, get_or, length, Option, Some, None, refl, sym, ◌∙◌, ap, subst, arith}
use Rattle.std.specs.Prelude.{IsSomeAnd}
use Rattle.std.proofs.lemmas.Option.{same_Some}
use Rattle.ild_data.proofs.Options.{chain_some}
use Rattle.ild_data.specs.Data.{Data}
use Rattle.ild_schema.specs.Legible.{IsLegible}
use Rattle.ild_schema.specs.Slots.{form_of}
use Rattle.ild_schema.specs.Value.{Value}
use Rattle.ild_schema.specs.declared.row.Row.{Row}
use Rattle.ild_path_steps.specs.Steps.{FoundLead, StepsTo, is_left_out}
use Rattle.ild_path_steps.specs.declared.steps.PartSteps.{PartSteps}
use Rattle.ild_typed.specs.At.{InSlot, seen}
use Rattle.ild_typed.specs.Hamt.{alone}
use Rattle.ild_typed.specs.Represented.{represented}
use Rattle.ild_typed.specs.Segment.{part}
use Rattle.ild_view.specs.Parts.{HandsOut, IsPartView}
use Rattle.ild_view.specs.View.{IsView, slot_of, table_of}
use Rattle.ild_view.specs.declared.view.View.{View}
use Rattle.ild_path_holder.specs.Along.{LeadAlong, StepsIn, holder_at, is_holder}
use Rattle.ild_path_holder.proofs.Written.{has_part, is_written}

-- the steps before the segment in front of the kth, and the view of its holder
pub record Walked (rows : List Row) (p l : InSlot) (s : List ℕ) (ss path : List (List ℕ)) (k : ℕ) (steps : List PartSteps) (v : View) : Type 0 where
  pub to : InSlot
  pub view : IsPartView rows to v
  pub now : List ℕ
  pub rest : List (List ℕ)
  pub at : drop (k - 1) path ≡ now ∷ rest
  pub leads : holder_at rows to now rest ≡ Some l
  pub adds : (os : List PartSteps) → LeadAlong rows to now rest os → LeadAlong rows p s ss (steps ++ os)

pub walked_begins : (v : View) (f : Value) (l : InSlot) (s : List ℕ) (ss path : List (List ℕ)) (steps : List PartSteps) → steps ≡ [] → IsView v f → path ≡ s ∷ ss → holder_at (table_of v) (slot_of v, f) s ss ≡ Some l → Walked (table_of v) (slot_of v, f) l s ss path 1 steps v
walked_begins v f l s ss path steps none h is at = record {
  to = (slot_of v, f);
  view = record { table = refl; slot = refl; view = h };
  now = s;
  rest = ss;
  at = is;
  leads = at;
  adds = λ os x. subst (λ ys. LeadAlong (table_of v) (slot_of v, f) s ss (ys ++ os)) (sym none) x;
}

first_is : (xs : List (List ℕ)) (i : ℕ) (x y : List ℕ) (ys : List (List ℕ)) → drop i xs ≡ y ∷ ys → x ≡ get_or xs i x → x ≡ y
first_is [] zero x y ys e is = absurd cc
first_is [] (suc i) x y ys e is = absurd cc
first_is (z ∷ xs) zero x y ys e is = let same : z ≡ y = cc e in is ∙ same
first_is (z ∷ xs) (suc i) x y ys e is = first_is xs i x y ys e is

pub behind_first : (xs : List (List ℕ)) (i : ℕ) (y : List ℕ) (ys : List (List ℕ)) → drop i xs ≡ y ∷ ys → drop (suc i) xs ≡ ys
behind_first [] zero y ys e = absurd cc
behind_first [] (suc i) y ys e = absurd cc
behind_first (z ∷ xs) zero y ys e = cc e
behind_first (z ∷ xs) (suc i) y ys e = behind_first xs i y ys e

length_is : (xs : List (List ℕ)) (i : ℕ) (y : List ℕ) (ys : List (List ℕ)) → drop i xs ≡ y ∷ ys → length xs ≡ i + (1 + length ys)
length_is [] zero y ys e = absurd cc
length_is [] (suc i) y ys e = absurd cc
length_is (z ∷ xs) zero y ys e =
    let same : xs ≡ ys = cc e in
    let long : length xs ≡ length ys = ap length same in
    omega (arith, long)
length_is (z ∷ xs) (suc i) y ys e = let more = length_is xs i y ys e in omega (arith, more)

pub passed : (rows : List Row) (q l : InSlot) (t : List ℕ) (ts : List (List ℕ)) → holder_at rows q t ts ≡ Some l → is_holder (seen rows l) ≡ true → is_holder (seen rows q) ≡ true
passed rows q l t [] at holds = ap (λ r. is_holder (seen rows r)) (same_Some q l at) ∙ holds
passed rows q l t (u ∷ us) at holds = let x = chain_some (λ r. holder_at rows r u us) (part (seen rows q) t) l at in has_part (seen rows q) t x.0 x.1

some_there : {A : Type 0} (P : A → Type 0) (x : A) → IsSomeAnd (Some x) P → P x
some_there P x h = h

pub handed : (rows : List Row) (o : Option InSlot) (q : InSlot) (r : Option View) → o ≡ Some q → HandsOut rows o r → IsSomeAnd r (IsPartView rows q)
handed rows o q r e h = by r (subst (λ p. HandsOut rows p r) e h) where
  by : (r : Option View) → HandsOut rows (Some q) r → IsSomeAnd r (IsPartView rows q)
  by None h = absurd h
  by (Some v) h = h

-- the data of a part, of which there is a view
abbrev data_of_view : (rows : List Row) (q : InSlot) (v : View) → IsPartView rows q v → (d : Data) × (represented alone rows q.0 q.1 ≡ Some d)
data_of_view rows q v h = (h.view.tree, subst (λ u. represented alone rows u q.1 ≡ Some h.view.tree) h.slot (subst (λ rs. represented alone rs (slot_of v) q.1 ≡ Some h.view.tree) h.table h.view.front.tree))

module _ (rows : List Row) (legible : IsLegible rows) (p l : InSlot) (s : List ℕ) (ss path : List (List ℕ)) (k : ℕ) (steps : List PartSteps) (v : View) (w : Walked rows p l s ss path k steps v) (holds : is_holder (seen rows l) ≡ true)
    (one : 1 ≤ k) (less : k < length path) (x : List ℕ) (x_is : x ≡ get_or path (k - 1) x)
  where
    -- the next segment, and the part
    pub record Next : Type 0 where
      pub segment : List ℕ
      pub more : List (List ℕ)
      pub rest_is : w.rest ≡ segment ∷ more
      pub part_is : InSlot
      pub there : part (seen rows w.to) x ≡ Some part_is
      pub leads : holder_at rows part_is segment more ≡ Some l

    pub next : Next
    next = by w.rest w.at w.leads refl where
      name_is : x ≡ w.now
      name_is = first_is path (k - 1) x w.now w.rest w.at x_is

      by : (rest : List (List ℕ)) → drop (k - 1) path ≡ w.now ∷ rest → holder_at rows w.to w.now rest ≡ Some l → w.rest ≡ rest → Next
      by [] at leads is = let long = length_is path (k - 1) w.now [] at in absurd (omega (arith, long, less, one))
      by (t ∷ ts) at leads is =
          let y = chain_some (λ q. holder_at rows q t ts) (part (seen rows w.to) w.now) l leads in
          record { segment = t; more = ts; rest_is = is; part_is = y.0; there = ap (part (seen rows w.to)) name_is ∙ y.1; leads = y.2 }

    abbrev pub PartClause : Option View → Type 0
    PartClause r = (f : Value) → IsView v f → HandsOut (table_of v) (part (seen (table_of v) (slot_of v, f)) x) r

    abbrev pub StepsClause : Option PartSteps → Type 0
    StepsClause r =
        (f : Value) (q : InSlot) (d : Data) → IsView v f → part (seen (table_of v) (slot_of v, f)) x ≡ Some q → represented alone (table_of v) q.0 q.1 ≡ Some d → is_left_out (form_of (table_of v) (slot_of v)) x d ≡ false
        → IsSomeAnd r (StepsTo (table_of v) (slot_of v, f) x q)

    pub part_there : (r : Option View) → PartClause r → IsSomeAnd r (IsPartView rows (next).part_is)
    part_there r all =
        subst (λ u. part (seen rows (u, w.to.1)) x ≡ Some (next).part_is → IsSomeAnd r (IsPartView rows (next).part_is)) w.view.slot
        (subst (λ rs. part (seen rs (slot_of v, w.to.1)) x ≡ Some (next).part_is → IsSomeAnd r (IsPartView rs (next).part_is)) w.view.table (λ e. handed (table_of v) _ (next).part_is r e (all w.to.1 w.view.view)))
        (next).there

    pub no_view : PartClause None → ⊥
    no_view all = part_there None all

    -- what is left out holds no parts
    written : (q : View) → IsPartView rows (next).part_is q → (y : Data) → is_left_out (form_of rows w.to.0) x y ≡ false
    written q h =
        is_written rows legible w.to (next).part_is x (data_of_view rows w.to v w.view).0 (data_of_view rows (next).part_is q h).0 (data_of_view rows w.to v w.view).1 (next).there (data_of_view rows (next).part_is q h).1
        (passed rows (next).part_is l (next).segment (next).more (next).leads holds)

    steps_there : (q : View) (h : IsPartView rows (next).part_is q) (r : Option PartSteps) → StepsClause r → IsSomeAnd r (StepsTo rows w.to x (next).part_is)
    steps_there q h r all =
        let d = data_of_view rows (next).part_is q h in
        subst (λ u. part (seen rows (u, w.to.1)) x ≡ Some (next).part_is → is_left_out (form_of rows u) x d.0 ≡ false → IsSomeAnd r (StepsTo rows (u, w.to.1) x (next).part_is)) w.view.slot
        (subst (λ rs. represented alone rs (next).part_is.0 (next).part_is.1 ≡ Some d.0 → part (seen rs (slot_of v, w.to.1)) x ≡ Some (next).part_is → is_left_out (form_of rs (slot_of v)) x d.0 ≡ false
        → IsSomeAnd r (StepsTo rs (slot_of v, w.to.1) x (next).part_is)) w.view.table (λ m e o. all w.to.1 (next).part_is d.0 w.view.view e m o) d.1)
        (next).there (written q h d.0)

    abbrev pub LeadsClause : Option PartSteps → Type 0
    LeadsClause r =
        (f : Value) (q : InSlot) (d : Data) (h : IsView v f) → part (seen (table_of v) (slot_of v, f)) x ≡ Some q → represented alone (table_of v) q.0 q.1 ≡ Some d → is_left_out (form_of (table_of v) (slot_of v)) x d ≡ false
        → FoundLead r h.tree d

    stands_there : (q : View) (h : IsPartView rows (next).part_is q) (r : Option PartSteps) → LeadsClause r → (t : Data) → represented alone rows w.to.0 w.to.1 ≡ Some t → FoundLead r t (data_of_view rows (next).part_is q h).0
    stands_there q h r all t made =
        let d = data_of_view rows (next).part_is q h in
        let same : w.view.view.tree ≡ t = same_Some w.view.view.tree t (sym (data_of_view rows w.to v w.view).1 ∙ made) in
        subst (λ y. FoundLead r y d.0) same
        (subst (λ u. part (seen rows (u, w.to.1)) x ≡ Some (next).part_is → is_left_out (form_of rows u) x d.0 ≡ false → FoundLead r w.view.view.tree d.0) w.view.slot
        (subst (λ rs. represented alone rs (next).part_is.0 (next).part_is.1 ≡ Some d.0 → part (seen rs (slot_of v, w.to.1)) x ≡ Some (next).part_is → is_left_out (form_of rs (slot_of v)) x d.0 ≡ false → FoundLead r w.view.view.tree d.0)
        w.view.table (λ m e o. all w.to.1 (next).part_is d.0 w.view.view e m o) d.1)
        (next).there (written q h d.0))

    pub no_steps : (q : View) → PartClause (Some q) → StepsClause None → ⊥
    no_steps q parts all = steps_there q (part_there (Some q) parts) None all

    pub walked_on : (q : View) (o : PartSteps) → PartClause (Some q) → StepsClause (Some o) → LeadsClause (Some o) → (n : ℕ) → n ≡ k + 1 → (after : List PartSteps) → after ≡ steps ++ o ∷ [] → Walked rows p l s ss path n after q
    walked_on q o parts all stand n n_is after after_is =
        let h : IsPartView rows (next).part_is q = part_there (Some q) parts in
        let to : StepsTo rows w.to x (next).part_is o = steps_there q h (Some o) all in
        let within : StepsIn rows w.to x (next).part_is o = record {
          held = (data_of_view rows (next).part_is q h).0;
          holds = (data_of_view rows (next).part_is q h).1;
          leads = λ t made. stands_there q h (Some o) stand t made;
          each = λ c y e made. to.each c y e made (written q h y);
        } in
        let name_is : x ≡ w.now = first_is path (k - 1) x w.now w.rest w.at x_is in
        let step : suc (k - 1) ≡ n - 1 = omega (arith, n_is, one) in
        record {
          to = (next).part_is;
          view = h;
          now = (next).segment;
          rest = (next).more;
          at = ap (λ (m : ℕ). drop m path) (sym step) ∙ behind_first path (k - 1) w.now w.rest w.at ∙ (next).rest_is;
          leads = (next).leads;
          adds = λ os lead.
              subst (λ ys. LeadAlong rows p s ss ys) (sym (ap (λ ys. ys ++ os) after_is ∙ append_assoc steps (o ∷ []) os))
              (w.adds (o ∷ os) (subst (λ ts. LeadAlong rows w.to w.now ts (o ∷ os)) (sym (next).rest_is) ((next).part_is, ap (part (seen rows w.to)) (sym name_is) ∙ (next).there, subst (λ m. StepsIn rows w.to m (next).part_is o) name_is within, lead)));
        }

no_more : (xs : List (List ℕ)) (n : ℕ) → length xs ≡ n → n ≡ 0 → xs ≡ []
no_more [] n e z = refl
no_more (x ∷ xs) n e z = absurd (omega (arith, e, z))

behind_all : {A : Type 0} (xs : List A) → xs ++ [] ≡ xs
behind_all [] = refl
behind_all (x ∷ xs) = ap (λ ys. x ∷ ys) (behind_all xs)

pub walked_ends : (rows : List Row) (p l : InSlot) (s : List ℕ) (ss path : List (List ℕ)) (k : ℕ) (steps : List PartSteps) (v : View) → Walked rows p l s ss path k steps v → 1 ≤ k → length path ≤ k → LeadAlong rows p s ss steps
walked_ends rows p l s ss path k steps v w one far =
    let long = length_is path (k - 1) w.now w.rest w.at in
    let none : w.rest ≡ [] = no_more w.rest (length w.rest) refl (omega (arith, long, far, one)) in
    subst (λ ys. LeadAlong rows p s ss ys) (behind_all steps) (w.adds [] (subst (λ ts. LeadAlong rows w.to w.now ts []) (sym none) tt))

-- and the view is that of the last holder
pub walked_holder : (rows : List Row) (p l : InSlot) (s : List ℕ) (ss path : List (List ℕ)) (k : ℕ) (steps : List PartSteps) (v : View) → Walked rows p l s ss path k steps v → 1 ≤ k → length path ≤ k → IsPartView rows l v
walked_holder rows p l s ss path k steps v w one far =
    let long = length_is path (k - 1) w.now w.rest w.at in
    let none : w.rest ≡ [] = no_more w.rest (length w.rest) refl (omega (arith, long, far, one)) in
    subst (λ q. IsPartView rows q v) (same_Some w.to l (subst (λ ts. holder_at rows w.to w.now ts ≡ Some l) none w.leads)) w.view
