-- The data of the parts, where one part is set.
use Rattle.std.proofs.Common.{cond, ◌≡◌, ℕ, zero, suc, List, [], ◌∷◌, slice_get, Bool, true, false, Option, Some, None, refl, ap, sym, subst, ◌∙◌}
use Rattle.std.specs.Prelude.{slice_set, option_map, option_and_then}
use Rattle.std.specs.Ordering.{match_ordering}
use Rattle.std.specs.declared.cmp.Ordering.{Ordering}
use Rattle.std.specs.declared.cmp.Ordering.TheVariants.{Less, Equal, Greater}
use Rattle.std.proofs.lemmas.Option.{same_Some, none-some}
use Rattle.ild_data.specs.Key.{key_cmp, same_text, put, value_at, IsBelow, Rises}
use Rattle.ild_typed.specs.Segment.{put_last}
use Rattle.ild_typed.specs.Strings.{cons_both}
use Rattle.ild_path_changes.proofs.Datas.{each, each_pair}

-- both are there where they are joined
pub record IsJoined {A : Type 0} (o : Option A) (p : Option (List A)) (zs : List A) : Type 0 where
  pub first : A
  pub rest : List A
  pub is_first : o ≡ Some first
  pub is_rest : p ≡ Some rest
  pub whole : first ∷ rest ≡ zs

pub joined : {A : Type 0} (o : Option A) (p : Option (List A)) (zs : List A) → cons_both o p ≡ Some zs → IsJoined o p zs
joined None p zs h = absurd (none-some zs h)
joined (Some a) None zs h = absurd (none-some zs h)
joined (Some a) (Some bs) zs h = record { first = a; rest = bs; is_first = refl; is_rest = refl; whole = same_Some (a ∷ bs) zs h }

-- of a list
pub each-get : {X Y : Type 0} (f : X → Option Y) (xs : List X) (ds : List Y) (i : ℕ) (x : X) (d : Y) → each f xs ≡ Some ds → slice_get xs i ≡ Some x → f x ≡ Some d → slice_get ds i ≡ Some d
each-get f [] ds i x d h g e = absurd (none-some x g)
each-get f (y ∷ ys) ds zero x d h g e =
    let j = joined (f y) (each f ys) ds h in
    subst (λ zs. slice_get zs zero ≡ Some d) j.whole (sym j.is_first ∙ ap f (same_Some y x g) ∙ e)
each-get f (y ∷ ys) ds (suc i) x d h g e =
    let j = joined (f y) (each f ys) ds h in
    subst (λ zs. slice_get zs (suc i) ≡ Some d) j.whole (each-get f ys j.rest i x d j.is_rest g e)

pub each-set : {X Y : Type 0} (f : X → Option Y) (xs : List X) (ds : List Y) (i : ℕ) (c : X) (d : Y) → each f xs ≡ Some ds → f c ≡ Some d → each f (slice_set xs i c) ≡ Some (slice_set ds i d)
each-set f [] ds i c d h e = subst (λ zs. Some [] ≡ Some (slice_set zs i d)) (same_Some [] ds h) refl
each-set f (y ∷ ys) ds zero c d h e =
    let j = joined (f y) (each f ys) ds h in
    subst (λ zs. cons_both (f c) (each f ys) ≡ Some (slice_set zs zero d)) j.whole (λ i. cons_both (e i) (j.is_rest i))
each-set f (y ∷ ys) ds (suc i) c d h e =
    let j = joined (f y) (each f ys) ds h in
    let r = each-set f ys j.rest i c d j.is_rest e in
    subst (λ zs. cons_both (f y) (each f (slice_set ys i c)) ≡ Some (slice_set zs (suc i) d)) j.whole (λ k. cons_both (j.is_first k) (r k))

pair_first : {X Y : Type 0} (f : X → Option Y) (x : X) (y : Y) (o : Option Y) (p : Option X) (b : Bool) → o ≡ option_and_then f p → f x ≡ Some y → cond b (Some y) o ≡ option_and_then f (cond b (Some x) p)
pair_first f x y o p true r e = sym e
pair_first f x y o p false r e = r

pair_at : {X Y : Type 0} (f : X → Option Y) (p : List ℕ × X) (ps : List (List ℕ × X)) (es : List (List ℕ × Y)) (k : List ℕ) (o : Option Y) → f p.1 ≡ o
    → cons_both (option_map (λ y. (p.0, y)) o) (each_pair f ps) ≡ Some es → ((rest : List (List ℕ × Y)) → each_pair f ps ≡ Some rest → value_at k rest ≡ option_and_then f (value_at k ps))
    → value_at k es ≡ option_and_then f (cond (same_text k p.0) (Some p.1) (value_at k ps))
pair_at f p ps es k None e h rest = absurd (none-some es h)
pair_at f p ps es k (Some y) e h rest =
    let j = joined (Some (p.0, y)) (each_pair f ps) es h in
    ap (value_at k) (sym j.whole) ∙ ap (λ x. value_at k (x ∷ j.rest)) (sym (same_Some (p.0, y) j.first j.is_first))
    ∙ pair_first f p.1 y (value_at k j.rest) (value_at k ps) (same_text k p.0) (rest j.rest j.is_rest) e

-- of pairs: the keys are the same
pub each_pair-at : {X Y : Type 0} (f : X → Option Y) (ps : List (List ℕ × X)) (es : List (List ℕ × Y)) (k : List ℕ) → each_pair f ps ≡ Some es → value_at k es ≡ option_and_then f (value_at k ps)
each_pair-at f [] es k h = ap (value_at k) (sym (same_Some [] es h))
each_pair-at f (p ∷ ps) es k h = pair_at f p ps es k (f p.1) refl h (λ rest g. each_pair-at f ps rest k g)

-- a pair at the head, from its value
pub joined_pair : {X Y : Type 0} (f : X → Option Y) (p : List ℕ × X) (x : List ℕ × Y) → option_map (λ y. (p.0, y)) (f p.1) ≡ Some x → x.0 ≡ p.0
joined_pair f p x h = by (f p.1) h
  where
    by : (o : Option _) → option_map (λ y. (p.0, y)) o ≡ Some x → x.0 ≡ p.0
    by None g = absurd (none-some x g)
    by (Some y) g = ap (λ z. z.0) (sym (same_Some (p.0, y) x g))

-- a pair that is put by the key order
put_each_at : {X Y : Type 0} (f : X → Option Y) (k : List ℕ) (c : X) (d : Y) (p : List ℕ × X) (ps : List (List ℕ × X)) (x : List ℕ × Y) (rest : List (List ℕ × Y)) (o : Ordering)
    → option_map (λ y. (p.0, y)) (f p.1) ≡ Some x → each_pair f ps ≡ Some rest → f c ≡ Some d → each_pair f (put k c ps) ≡ Some (put k d rest)
    → each_pair f (match_ordering o ((k, c) ∷ p ∷ ps) ((k, c) ∷ ps) (p ∷ put k c ps)) ≡ Some (match_ordering o ((k, d) ∷ x ∷ rest) ((k, d) ∷ rest) (x ∷ put k d rest))
put_each_at f k c d p ps x rest Less first is e r = λ i. cons_both (option_map (λ y. (k, y)) (e i)) (cons_both (first i) (is i))
put_each_at f k c d p ps x rest Equal first is e r = λ i. cons_both (option_map (λ y. (k, y)) (e i)) (is i)
put_each_at f k c d p ps x rest Greater first is e r = λ i. cons_both (first i) (r i)

pub each_pair-put : {X Y : Type 0} (f : X → Option Y) (k : List ℕ) (c : X) (d : Y) (ps : List (List ℕ × X)) (es : List (List ℕ × Y)) → each_pair f ps ≡ Some es → f c ≡ Some d
    → each_pair f (put k c ps) ≡ Some (put k d es)
each_pair-put f k c d [] es h e = subst (λ zs. each_pair f ((k, c) ∷ []) ≡ Some (put k d zs)) (same_Some [] es h) (λ i. cons_both (option_map (λ y. (k, y)) (e i)) (Some []))
each_pair-put f k c d (p ∷ ps) es h e =
    let j = joined (option_map (λ y. (p.0, y)) (f p.1)) (each_pair f ps) es h in
    let a = put_each_at f k c d p ps j.first j.rest (key_cmp k p.0) j.is_first j.is_rest e (each_pair-put f k c d ps j.rest j.is_rest e) in
    subst (λ zs. each_pair f (put k c (p ∷ ps)) ≡ Some (put k d zs)) j.whole
    (subst (λ l. each_pair f (put k c (p ∷ ps)) ≡ Some (match_ordering (key_cmp k l) ((k, d) ∷ j.first ∷ j.rest) ((k, d) ∷ j.rest) (j.first ∷ put k d j.rest))) (sym (joined_pair f p j.first j.is_first)) a)

-- a pair that is put in its place, or last
last_each_at : {X Y : Type 0} (f : X → Option Y) (k : List ℕ) (c : X) (d : Y) (p : List ℕ × X) (ps : List (List ℕ × X)) (x : List ℕ × Y) (rest : List (List ℕ × Y)) (b : Bool)
    → option_map (λ y. (p.0, y)) (f p.1) ≡ Some x → each_pair f ps ≡ Some rest → f c ≡ Some d → each_pair f (put_last k c ps) ≡ Some (put_last k d rest)
    → each_pair f (cond b ((k, c) ∷ ps) (p ∷ put_last k c ps)) ≡ Some (cond b ((k, d) ∷ rest) (x ∷ put_last k d rest))
last_each_at f k c d p ps x rest true first is e r = λ i. cons_both (option_map (λ y. (k, y)) (e i)) (is i)
last_each_at f k c d p ps x rest false first is e r = λ i. cons_both (first i) (r i)

pub each_pair-last : {X Y : Type 0} (f : X → Option Y) (k : List ℕ) (c : X) (d : Y) (ps : List (List ℕ × X)) (es : List (List ℕ × Y)) → each_pair f ps ≡ Some es → f c ≡ Some d
    → each_pair f (put_last k c ps) ≡ Some (put_last k d es)
each_pair-last f k c d [] es h e = subst (λ zs. each_pair f ((k, c) ∷ []) ≡ Some (put_last k d zs)) (same_Some [] es h) (λ i. cons_both (option_map (λ y. (k, y)) (e i)) (Some []))
each_pair-last f k c d (p ∷ ps) es h e =
    let j = joined (option_map (λ y. (p.0, y)) (f p.1)) (each_pair f ps) es h in
    let a = last_each_at f k c d p ps j.first j.rest (same_text k p.0) j.is_first j.is_rest e (each_pair-last f k c d ps j.rest j.is_rest e) in
    subst (λ zs. each_pair f (put_last k c (p ∷ ps)) ≡ Some (put_last k d zs)) j.whole
    (subst (λ l. each_pair f (put_last k c (p ∷ ps)) ≡ Some (cond (same_text k l) ((k, d) ∷ j.rest) (j.first ∷ put_last k d j.rest))) (sym (joined_pair f p j.first j.is_first)) a)

-- the keys rise where those of the values do
below_each : {X Y : Type 0} (f : X → Option Y) (k : List ℕ) (ps : List (List ℕ × X)) (es : List (List ℕ × Y)) → each_pair f ps ≡ Some es → IsBelow k ps → IsBelow k es
below_each f k [] es h below = subst (λ zs. IsBelow k zs) (same_Some [] es h) tt
below_each f k (p ∷ ps) es h below =
    let j = joined (option_map (λ y. (p.0, y)) (f p.1)) (each_pair f ps) es h in
    subst (λ zs. IsBelow k zs) j.whole (subst (λ l. key_cmp k l ≡ Less) (sym (joined_pair f p j.first j.is_first)) below)

pub rises_each : {X Y : Type 0} (f : X → Option Y) (ps : List (List ℕ × X)) (es : List (List ℕ × Y)) → each_pair f ps ≡ Some es → Rises ps → Rises es
rises_each f [] es h up = subst (λ zs. Rises zs) (same_Some [] es h) tt
rises_each f (p ∷ ps) es h up =
    let j = joined (option_map (λ y. (p.0, y)) (f p.1)) (each_pair f ps) es h in
    subst (λ zs. Rises zs) j.whole (subst (λ l. IsBelow l j.rest) (sym (joined_pair f p j.first j.is_first)) (below_each f p.0 ps j.rest j.is_rest up.0), rises_each f ps j.rest j.is_rest up.1)
