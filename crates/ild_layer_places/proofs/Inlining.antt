-- The parts of a map in which an entry is passed over, and in what way a part stands in its piece.
use Rattle.std.proofs.Common.{◌≡◌, ℕ, ◌+◌, List, [], ◌∷◌, ◌++◌, length, Bool, true, false, cond, Some, refl, sym, ◌∙◌, ap, subst, inl, inr}
use Rattle.std.specs.Cmp.Lexicographic.{same_text as text_same}
use Rattle.std.proofs.lemmas.Option.{same_Some, none-some}
use Rattle.ild_cbor.specs.Nodes.{HasData}
use Rattle.ild_cbor.specs.declared.node.Node.{Node}
use Rattle.ild_cbor.specs.declared.piece.Piece.{Piece}
use Rattle.ild_cbor.specs.declared.piece.Piece.TheVariants as P
use Rattle.ild_typed.proofs.PartsReached.{value_back}
use Rattle.ild_data.specs.Data as T
use Rattle.ild_data.specs.Data.{Data}
use Rattle.ild_data.specs.Key.{Rises, same_text, value_at, without}
use Rattle.ild_data.specs.Spell.{head, spell, spell_text}
use Rattle.ild_data.specs.Tree.{IsTree}
use Rattle.ild_data.proofs.Lists.{members_of-members_list}
use Rattle.ild_data.proofs.Rising.{rises_list}
use Rattle.ild_layer_piece.specs.Pieces.{StandsFor}
use Rattle.ild_schema.specs.declared.row.Row.{Row}
use Rattle.ild_typed.specs.Spots.{Step, item, key, under}
use Rattle.ild_typed.specs.Strings.{map_data}
use Rattle.ild_typed.specs.WayLaws.{Leads}
use Rattle.ild_typed.specs.Ways.{found_at, key_in, moved, step_in, value_in}
use Rattle.ild_typed.proofs.Basics.{map_from, then_from}
use Rattle.ild_typed.proofs.Rising.{below_none}
use Rattle.ild_typed.proofs.WaySteps.{bare_bytes, bare_text, no_way}
use Rattle.ild_layer_places.specs.Ending.{Ends, EndsBelow, IsPlain}
use Rattle.ild_layer_places.specs.Places.{EndsIn, IsFree, IsOnto, LeadsIn, PartsAreOnto}
use Rattle.ild_layer_places.proofs.Composing.{one_tree}
use Rattle.ild_layer_places.proofs.Ending.{key_ends, to_value}

-- ---- what is found in entries is found in more of them

abbrev FoundIn : List (List ℕ × Data) → List (List ℕ × Data) → Type 0
FoundIn whole es = (q : List ℕ) (v : Data) → value_at q es ≡ Some v → value_at q whole ≡ Some v

record KeyThere (es : List (List ℕ × Data)) (k : List ℕ) (d : Data) : Type 0 where
  value : Data
  there : value_at k es ≡ Some value
  is : d ≡ T.text k

key_back : (es : List (List ℕ × Data)) (k : List ℕ) (p : ℕ × Data) → key_in k (T.members_of es) ≡ Some p → KeyThere es k p.1
key_back [] k p h = absurd (none-some p h)
key_back (m ∷ es) k p h = by (same_text k m.0) refl h (key_back es k) where
  by : (b : Bool) → b ≡ same_text k m.0 → cond b (Some (0, T.text m.0)) (moved (length (spell_text m.0 ++ spell m.1)) (key_in k (T.members_of es))) ≡ Some p
      → ((q : ℕ × Data) → key_in k (T.members_of es) ≡ Some q → KeyThere es k q.1) → KeyThere (m ∷ es) k p.1
  by true same is later = record {
    value = m.1;
    there = ap (λ b. cond b (Some m.1) (value_at k es)) (sym same);
    is = sym (ap (λ (q : ℕ × Data). q.1) (same_Some (0, T.text m.0) p is)) ∙ ap T.text (sym (text_same k m.0 same));
  }
  by false same is later =
      let front = length (spell_text m.0 ++ spell m.1) in
      let x = map_from {B = ℕ × Data} (λ q. (front + q.0, q.1)) (key_in k (T.members_of es)) p is in
      let y = later x.item x.there in
      record {
        value = y.value;
        there = ap (λ b. cond b (Some m.1) (value_at k es)) (sym same) ∙ y.there;
        is = sym (ap (λ (q : ℕ × Data). q.1) (same_Some (front + x.item.0, x.item.1) p x.made)) ∙ y.is;
      }

record StepOn (s : Step) (way : List Step) (t d : Data) : Type 0 where
  at : ℕ × Data
  there : step_in s t ≡ Some at
  further : Ends way at.1 d

first_step : (s : Step) (way : List Step) (t d : Data) → Ends (s ∷ way) t d → StepOn s way t d
first_step s way t d (q, e) =
    let x = then_from (λ (r : ℕ × Data). moved r.0 (found_at way r.1)) (step_in s t) (q, d) e in
    let y = map_from {B = ℕ × Data} (λ r. (x.item.0 + r.0, r.1)) (found_at way x.item.1) (q, d) x.made in
    let same : y.item.1 ≡ d = ap (λ (r : ℕ × Data). r.1) (same_Some (x.item.0 + y.item.0, y.item.1) (q, d) y.made) in
    record { at = x.item; there = x.there; further = (y.item.0, y.there ∙ ap (λ (u : Data). Some (y.item.0, u)) same) }

inlined_ends : (es whole : List (List ℕ × Data)) → FoundIn whole es → (s : Step) (way : List Step) (d : Data) → Ends (s ∷ way) (map_data es) d → Ends (s ∷ way) (map_data whole) d
inlined_ends es whole found (item n) way d l = let x = first_step (item n) way (map_data es) d l in absurd (none-some x.at x.there)
inlined_ends es whole found (under k) way d l =
    let x = first_step (under k) way (map_data es) d l in
    let front = length (head 5 (length (T.members_list (T.members_of es)))) in
    let y = map_from {B = ℕ × Data} (λ r. (front + r.0, r.1)) (value_in k (T.members_of es)) x.at x.there in
    let same : y.item.1 ≡ x.at.1 = ap (λ (q : ℕ × Data). q.1) (same_Some (front + y.item.0, y.item.1) x.at y.made) in
    to_value whole k y.item.1 way d (found k y.item.1 (value_back es k y.item y.there)) (subst (λ u. Ends way u d) (sym same) x.further)
inlined_ends es whole found (key k) way d l =
    let x = first_step (key k) way (map_data es) d l in
    let front = length (head 5 (length (T.members_list (T.members_of es)))) in
    let y = map_from {B = ℕ × Data} (λ r. (front + r.0, r.1)) (key_in k (T.members_of es)) x.at x.there in
    let z = key_back es k y.item y.there in
    let same : x.at.1 ≡ T.text k = sym (ap (λ (q : ℕ × Data). q.1) (same_Some (front + y.item.0, y.item.1) x.at y.made)) ∙ z.is in
    key_ends whole k z.value way d (found k z.value z.there) (subst (λ u. Ends way u d) same x.further)

less_found : (k : List ℕ) (es : List (List ℕ × Data)) → Rises es → FoundIn es (without k es)
less_found k [] up q v h = h
less_found k (m ∷ es) up q v h = by (same_text k m.0) h (λ g. less_found k es up.1 q v g) where
  skip : value_at q es ≡ Some v → (b : Bool) → b ≡ same_text q m.0 → cond b (Some m.1) (value_at q es) ≡ Some v
  skip g true is = absurd (none-some v (sym (ap (λ x. value_at x es) (text_same q m.0 is) ∙ below_none m.0 es up.0 up.1) ∙ g))
  skip g false is = g

  keep : (value_at q (without k es) ≡ Some v → value_at q es ≡ Some v) → (b : Bool) → cond b (Some m.1) (value_at q (without k es)) ≡ Some v → cond b (Some m.1) (value_at q es) ≡ Some v
  keep later true g = g
  keep later false g = later g

  by : (b : Bool) → value_at q (cond b es (m ∷ without k es)) ≡ Some v → (value_at q (without k es) ≡ Some v → value_at q es ≡ Some v) → cond (same_text q m.0) (Some m.1) (value_at q es) ≡ Some v
  by true g later = skip g (same_text q m.0) refl
  by false g later = keep later (same_text q m.0) g

-- in the map of a node, with the entry that is passed over
module _ (rows : List Row) (n : Node) (u : ℕ) (t : Data) (stands : StandsFor rows (P.Inline n u) t) where
  abbrev entry_list : List (List ℕ × Data)
  entry_list = T.members_list stands.entries

  whole_is : (w : Data) → HasData n w → map_data entry_list ≡ w
  whole_is w there = ap T.map (members_of-members_list stands.entries) ∙ one_tree n (T.map stands.entries) w stands.stands there

  node_ends : (way : List Step) (d : Data) → EndsBelow way t d → (w : Data) → HasData n w → Ends way w d
  node_ends way d e w there =
      let rises : Rises entry_list = rises_list entry_list (subst IsTree (sym (ap T.map (members_of-members_list stands.entries))) stands.stands.within.tree) in
      let own : Ends (e.step ∷ e.rest) (map_data (without stands.key entry_list)) d = subst (λ v. Ends v (map_data (without stands.key entry_list)) d) e.is (subst (λ v. Ends way v d) stands.rest e.ends) in
      subst (λ v. Ends way v d) (whole_is w there)
      (subst (λ v. Ends v (map_data entry_list) d) (sym e.is) (inlined_ends (without stands.key entry_list) entry_list (less_found stands.key entry_list rises) e.step e.rest d own))

  node_leads : (way : List Step) → Leads way t → (w : Data) → HasData n w → Leads way w
  node_leads [] l w there = ((0, w), refl)
  node_leads (s ∷ way) l w there =
      let e = node_ends (s ∷ way) l.0.1 (record { step = s; rest = way; is = refl; ends = (l.0.0, l.1) }) w there in
      ((e.0, l.0.1), e.1)

-- ---- all pieces

leads_in : (rows : List Row) (y : Piece) (t : Data) (way : List Step) → StandsFor rows y t → Leads way t → LeadsIn y way
leads_in rows (P.Node n) t way stands l = λ w there. subst (Leads way) (one_tree n t w stands there) l
leads_in rows (P.Inline n u) t way stands l = node_leads rows n u t stands way l
leads_in rows (P.Text s) t way stands l = no_way way (T.text s.now) (bare_text s.now) (subst (Leads way) stands l)
leads_in rows (P.Bytes s) t way stands l = no_way way (T.bytes s.now) (bare_bytes s.now) (subst (Leads way) stands l)

none_below : {A : Type 0} (t d : Data) (way : List Step) → IsPlain t → EndsBelow way t d → A
none_below t d way plain e =
    let l : Leads (e.step ∷ e.rest) t = subst (λ v. Leads v t) e.is ((e.ends.0, d), e.ends.1) in
    let none = no_way (e.step ∷ e.rest) t plain l in
    absurd cc

ends_in : (rows : List Row) (y : Piece) (t d : Data) (way : List Step) → StandsFor rows y t → EndsBelow way t d → EndsIn y way d
ends_in rows (P.Node n) t d way stands e = λ w there. subst (λ v. Ends way v d) (one_tree n t w stands there) e.ends
ends_in rows (P.Inline n u) t d way stands e = node_ends rows n u t stands way d e
ends_in rows (P.Text s) t d way stands e = none_below t d way (subst IsPlain (sym stands) (bare_text s.now)) e
ends_in rows (P.Bytes s) t d way stands e = none_below t d way (subst IsPlain (sym stands) (bare_bytes s.now)) e

onto : (rows : List Row) (y x : Piece) (t d : Data) (way : List Step) → StandsFor rows y t → IsFree y x way t d → IsOnto y way x d
onto rows y (P.Text s) t d way stands f = tt
onto rows y (P.Bytes s) t d way stands f = tt
onto rows y (P.Inline m u) t d way stands f = f
onto rows y (P.Node m) t d way stands (inl plain) = inl plain
onto rows y (P.Node m) t d way stands (inr (inl e)) = inr (ends_in rows y t d way stands e)
onto rows y (P.Node m) t d way stands (inr (inr (ends, (n, is)))) =
    inr (subst (λ z. EndsIn z way d) (sym is) (λ w there. subst (λ v. Ends way v d) (one_tree n t w (subst (λ z. StandsFor rows z t) is stands) there) ends))

pub parts_are_onto : PartsAreOnto
parts_are_onto rows y x t d way stands leads f = record { leads = leads_in rows y t way stands leads; onto = onto rows y x t d way stands f }
