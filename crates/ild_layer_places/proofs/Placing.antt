-- What the steps of a way find in an item, and the nodes that a look-up finds.
use Rattle.std.proofs.Common.{◌≡◌, ℕ, zero, suc, ◌+◌, List, [], ◌∷◌, ◌++◌, length, Bool, true, false, cond, Option, Some, None, refl, sym, ◌∙◌, ap, subst, arith}
use Rattle.std.specs.Prelude.{slice_get, option_and_then}
use Rattle.std.specs.Cmp.Lexicographic.{same_text as text_same}
use Rattle.std.proofs.lemmas.Option.{same_Some, none-some}
use Rattle.ild_cbor.specs.Nodes.{HasData, Finds as NodeFinds, start_of}
use Rattle.ild_cbor.specs.Span.{entry_of, index_of, item_of, items_before, key_index, place_of, values_before}
use Rattle.ild_cbor.specs.declared.node.Node.{Node}
use Rattle.ild_data.specs.Data as T
use Rattle.ild_data.specs.Data.{Data}
use Rattle.ild_data.specs.Key.{same_text, value_at}
use Rattle.ild_data.specs.Spell.{head, spell, spell_text}
use Rattle.ild_typed.specs.Spots.{Step, item, key, under}
use Rattle.ild_typed.specs.Ways.{found_at, item_in, key_in, moved, step_in, value_in}
use Rattle.ild_typed.proofs.Basics.{map_from, then_from}
use Rattle.ild_typed.specs.WayLaws.{Leads}
use Rattle.ild_layer_places.specs.Places.{BeginsAt, WayFinds, IsFound}

pub length_both : (a b : List ℕ) → length (a ++ b) ≡ length a + length b
length_both [] b = let e : length b ≡ zero + length b = omega arith in e
length_both (x ∷ a) b = let h = length_both a b in omega (arith, h)

-- ---- ways of several steps

-- where the first steps end, and how the others go on from there
pub record Split (a b : List Step) (w : Data) (p : ℕ) (d : Data) : Type 0 where
  pub at : ℕ
  pub mid : Data
  pub on : ℕ
  pub first : found_at a w ≡ Some (at, mid)
  pub rest : found_at b mid ≡ Some (on, d)
  pub sum : p ≡ at + on

pub found_split : (a b : List Step) (w : Data) (p : ℕ) (d : Data) → found_at (a ++ b) w ≡ Some (p, d) → Split a b w p d
found_split [] b w p d e = record { at = 0; mid = w; on = p; first = refl; rest = e; sum = omega arith }
found_split (s ∷ a) b w p d e =
    let x = then_from (λ (q : ℕ × Data). moved q.0 (found_at (a ++ b) q.1)) (step_in s w) (p, d) e in
    let y = map_from {B = ℕ × Data} (λ q. (x.item.0 + q.0, q.1)) (found_at (a ++ b) x.item.1) (p, d) x.made in
    let same = same_Some (x.item.0 + y.item.0, y.item.1) (p, d) y.made in
    let z = found_split a b x.item.1 y.item.0 y.item.1 y.there in
    let one : x.item.0 + y.item.0 ≡ p = ap (λ (q : ℕ × Data). q.0) same in
    let two = z.sum in
    record {
      at = x.item.0 + z.at;
      mid = z.mid;
      on = z.on;
      first = ap (λ o. option_and_then (λ (q : ℕ × Data). moved q.0 (found_at a q.1)) o) x.there ∙ ap (moved x.item.0) z.first;
      rest = subst (λ u. found_at b z.mid ≡ Some (z.on, u)) (ap (λ (q : ℕ × Data). q.1) same) z.rest;
      sum = omega (arith, one, two);
    }

pub found_join : (a b : List Step) (w mid : Data) (p j : ℕ) (d : Data) → found_at a w ≡ Some (p, mid) → found_at b mid ≡ Some (j, d) → found_at (a ++ b) w ≡ Some (p + j, d)
found_join [] b w mid p j d e h =
    let same = same_Some (0, w) (p, mid) e in
    let none : 0 ≡ p = ap (λ (q : ℕ × Data). q.0) same in
    let sum : j ≡ p + j = omega (arith, none) in
    ap (found_at b) (ap (λ (q : ℕ × Data). q.1) same) ∙ h ∙ ap (λ n. Some (n, d)) sum
found_join (s ∷ a) b w mid p j d e h =
    let x = then_from (λ (q : ℕ × Data). moved q.0 (found_at a q.1)) (step_in s w) (p, mid) e in
    let y = map_from {B = ℕ × Data} (λ q. (x.item.0 + q.0, q.1)) (found_at a x.item.1) (p, mid) x.made in
    let same = same_Some (x.item.0 + y.item.0, y.item.1) (p, mid) y.made in
    let one : x.item.0 + y.item.0 ≡ p = ap (λ (q : ℕ × Data). q.0) same in
    let more = found_join a b x.item.1 mid y.item.0 j d (y.there ∙ ap (λ (u : Data). Some (y.item.0, u)) (ap (λ (q : ℕ × Data). q.1) same)) h in
    let sum : x.item.0 + (y.item.0 + j) ≡ p + j = omega (arith, one) in
    ap (λ o. option_and_then (λ (q : ℕ × Data). moved q.0 (found_at (a ++ b) q.1)) o) x.there ∙ ap (moved x.item.0) more ∙ ap (λ n. Some (n, d)) sum

pub one_step : (s : Step) (u : Data) (j : ℕ) (d : Data) → found_at (s ∷ []) u ≡ Some (j, d) → step_in s u ≡ Some (j, d)
one_step s u j d e =
    let x = then_from (λ (q : ℕ × Data). moved q.0 (found_at [] q.1)) (step_in s u) (j, d) e in
    let more : x.item.0 ≡ x.item.0 + 0 = omega arith in
    x.there ∙ ap (λ n. Some (n, x.item.1)) more ∙ x.made

pub step_one : (s : Step) (u : Data) (j : ℕ) (d : Data) → step_in s u ≡ Some (j, d) → found_at (s ∷ []) u ≡ Some (j, d)
step_one s u j d e =
    let less : j + 0 ≡ j = omega arith in
    ap (λ o. option_and_then (λ (q : ℕ × Data). moved q.0 (found_at [] q.1)) o) e ∙ ap (λ n. Some (n, d)) less

-- ---- one step

items_there : (i : ℕ) (ds : T.Items) (o : ℕ) (d : Data) → item_in i ds ≡ Some (o, d) → (slice_get (T.items_list ds) i ≡ Some d) × (length (items_before i ds) ≡ o)
items_there i T.no_items o d e = absurd (none-some (o, d) e)
items_there zero (T.item c ds) o d e =
    let same = same_Some (0, c) (o, d) e in (ap (λ (q : ℕ × Data). Some q.1) same, ap (λ (q : ℕ × Data). q.0) same)
items_there (suc i) (T.item c ds) o d e =
    let x = map_from {B = ℕ × Data} (λ q. (length (spell c) + q.0, q.1)) (item_in i ds) (o, d) e in
    let same = same_Some (length (spell c) + x.item.0, x.item.1) (o, d) x.made in
    let y = items_there i ds x.item.0 x.item.1 x.there in (
      y.0 ∙ ap (λ (q : ℕ × Data). Some q.1) same,
      length_both (spell c) (items_before i ds) ∙ ap (λ n. length (spell c) + n) y.1 ∙ ap (λ (q : ℕ × Data). q.0) same,
    )

item_there : (u : Data) (i o : ℕ) (d : Data) → step_in (item i) u ≡ Some (o, d) → (item_of u i ≡ Some d) × (place_of u i ≡ o)
item_there (T.list ds) i o d e =
    let front = head 4 (length (T.items_list ds)) in
    let x = map_from {B = ℕ × Data} (λ q. (length front + q.0, q.1)) (item_in i ds) (o, d) e in
    let same = same_Some (length front + x.item.0, x.item.1) (o, d) x.made in
    let y = items_there i ds x.item.0 x.item.1 x.there in (
      y.0 ∙ ap (λ (q : ℕ × Data). Some q.1) same,
      length_both front (items_before i ds) ∙ ap (λ n. length front + n) y.1 ∙ ap (λ (q : ℕ × Data). q.0) same,
    )
item_there u i o d e = absurd (none-some (o, d) e)

values_there : (k : List ℕ) (ms : T.Members) (o : ℕ) (d : Data) → value_in k ms ≡ Some (o, d) → (value_at k (T.members_list ms) ≡ Some d) × (length (values_before (key_index k ms) ms) ≡ o)
values_there k T.no_members o d e = absurd (none-some (o, d) e)
values_there k (T.member l c ms) o d e = by (same_text k l) e (λ q x h. values_there k ms q x h) where
  by : (b : Bool) → cond b (Some (length (spell_text l), c)) (moved (length (spell_text l ++ spell c)) (value_in k ms)) ≡ Some (o, d)
      → ((q : ℕ) (x : Data) → value_in k ms ≡ Some (q, x) → (value_at k (T.members_list ms) ≡ Some x) × (length (values_before (key_index k ms) ms) ≡ q))
      → (cond b (Some c) (value_at k (T.members_list ms)) ≡ Some d) × (length (values_before (cond b 0 (suc (key_index k ms))) (T.member l c ms)) ≡ o)
  by true h later =
      let same = same_Some (length (spell_text l), c) (o, d) h in (ap (λ (q : ℕ × Data). Some q.1) same, ap (λ (q : ℕ × Data). q.0) same)
  by false h later =
      let front = spell_text l ++ spell c in
      let x = map_from {B = ℕ × Data} (λ q. (length front + q.0, q.1)) (value_in k ms) (o, d) h in
      let same = same_Some (length front + x.item.0, x.item.1) (o, d) x.made in
      let y = later x.item.0 x.item.1 x.there in
      let rest = values_before (key_index k ms) ms in
      let whole = length_both (spell_text l) (spell c ++ rest) in
      let part = length_both (spell c) rest in
      let both = length_both (spell_text l) (spell c) in
      let here = y.1 in
      let sum : length front + x.item.0 ≡ o = ap (λ (q : ℕ × Data). q.0) same in
      (y.0 ∙ ap (λ (q : ℕ × Data). Some q.1) same, omega (arith, whole, part, both, here, sum))

value_there : (u : Data) (k : List ℕ) (o : ℕ) (d : Data) → step_in (under k) u ≡ Some (o, d) → (entry_of u k ≡ Some d) × (place_of u (index_of k u) ≡ o)
value_there (T.map ms) k o d e =
    let front = head 5 (length (T.members_list ms)) in
    let x = map_from {B = ℕ × Data} (λ q. (length front + q.0, q.1)) (value_in k ms) (o, d) e in
    let same = same_Some (length front + x.item.0, x.item.1) (o, d) x.made in
    let y = values_there k ms x.item.0 x.item.1 x.there in (
      y.0 ∙ ap (λ (q : ℕ × Data). Some q.1) same,
      length_both front (values_before (key_index k ms) ms) ∙ ap (λ n. length front + n) y.1 ∙ ap (λ (q : ℕ × Data). q.0) same,
    )
value_there u k o d e = absurd (none-some (o, d) e)

-- ---- the value of a key that is found stands behind the key

record Behind (k : List ℕ) (ms : T.Members) (o : ℕ) : Type 0 where
  value : Data
  is : value_in k ms ≡ Some (o + length (spell_text k), value)

behind_key : (k : List ℕ) (ms : T.Members) (o : ℕ) (d : Data) → key_in k ms ≡ Some (o, d) → Behind k ms o
behind_key k T.no_members o d e = absurd (none-some (o, d) e)
behind_key k (T.member l c ms) o d e = by (same_text k l) refl e (λ q x h. behind_key k ms q x h) where
  by : (b : Bool) → b ≡ same_text k l → cond b (Some (0, T.text l)) (moved (length (spell_text l ++ spell c)) (key_in k ms)) ≡ Some (o, d) → ((q : ℕ) (x : Data) → key_in k ms ≡ Some (q, x) → Behind k ms q) → Behind k (T.member l c ms) o
  by true is h later =
      let none : 0 ≡ o = ap (λ (q : ℕ × Data). q.0) (same_Some (0, T.text l) (o, d) h) in
      let long : length (spell_text l) ≡ length (spell_text k) = ap (λ s. length (spell_text s)) (sym (text_same k l is)) in
      let sum : length (spell_text l) ≡ o + length (spell_text k) = omega (arith, none, long) in
      record {
        value = c;
        is = ap (λ b. cond b (Some (length (spell_text l), c)) (moved (length (spell_text l ++ spell c)) (value_in k ms))) (sym is) ∙ ap (λ n. Some (n, c)) sum;
      }
  by false is h later =
      let front = length (spell_text l ++ spell c) in
      let x = map_from {B = ℕ × Data} (λ q. (front + q.0, q.1)) (key_in k ms) (o, d) h in
      let same : front + x.item.0 ≡ o = ap (λ (q : ℕ × Data). q.0) (same_Some (front + x.item.0, x.item.1) (o, d) x.made) in
      let y = later x.item.0 x.item.1 x.there in
      let sum : front + (x.item.0 + length (spell_text k)) ≡ o + length (spell_text k) = omega (arith, same) in
      record {
        value = y.value;
        is = ap (λ b. cond b (Some (length (spell_text l), c)) (moved front (value_in k ms))) (sym is) ∙ ap (moved front) y.is ∙ ap (λ n. Some (n, y.value)) sum;
      }

pub key_before : (u : Data) (k : List ℕ) (o : ℕ) (d : Data) → step_in (key k) u ≡ Some (o, d) → (v : Data) × (step_in (under k) u ≡ Some (o + length (spell_text k), v))
key_before (T.map ms) k o d e =
    let front = length (head 5 (length (T.members_list ms))) in
    let x = map_from {B = ℕ × Data} (λ q. (front + q.0, q.1)) (key_in k ms) (o, d) e in
    let same : front + x.item.0 ≡ o = ap (λ (q : ℕ × Data). q.0) (same_Some (front + x.item.0, x.item.1) (o, d) x.made) in
    let y = behind_key k ms x.item.0 x.item.1 x.there in
    let sum : front + (x.item.0 + length (spell_text k)) ≡ o + length (spell_text k) = omega (arith, same) in
    (y.value, ap (moved front) y.is ∙ ap (λ n. Some (n, y.value)) sum)
key_before u k o d e = absurd (none-some (o, d) e)

-- ---- nodes

as_found : (m : Node) (p : ℕ) (d : Data) (r : Option Node) → NodeFinds m p (Some d) r → IsFound m p d r
as_found m p d (Some x) h = (h.stands, h.start_is)
as_found m p d None h = absurd h

further_on : (n m : Node) (q j p : ℕ) (d : Data) (r : Option Node) → start_of m ≡ start_of n + q → p ≡ q + j → IsFound m j d r → IsFound n p d r
further_on n m q j p d (Some x) at sum h = let here = h.1 in (h.0, omega (arith, at, sum, here))
further_on n m q j p d None at sum h = h

pub finds_item : (n m : Node) (w : Data) (way : List Step) (i : ℕ) (r : Option Node) → ((t : Data) → HasData m t → NodeFinds m (place_of t i) (item_of t i) r) → WayFinds n w way (Some m) → WayFinds n w (way ++ (item i ∷ [])) r
finds_item n m w way i r gives all p d e =
    let s = found_split way (item i ∷ []) w p d e in
    let own = all s.at s.mid s.first in
    let it = item_there s.mid i s.on d (one_step (item i) s.mid s.on d s.rest) in
    let found : NodeFinds m s.on (Some d) r = subst (λ q. NodeFinds m q (Some d) r) it.1 (subst (λ o. NodeFinds m (place_of s.mid i) o r) it.0 (gives s.mid own.0)) in
    further_on n m s.at s.on p d r own.1 s.sum (as_found m s.on d r found)

pub finds_none : (n : Node) (w : Data) (way : List Step) (i : ℕ) → WayFinds n w way None → WayFinds n w (way ++ (item i ∷ [])) None
finds_none n w way i all p d e = let s = found_split way (item i ∷ []) w p d e in all s.at s.mid s.first

pub finds_value : (n : Node) (w : Data) (k : List ℕ) (r : Option Node) → ((t : Data) → HasData n t → NodeFinds n (place_of t (index_of k t)) (entry_of t k) r) → HasData n w → WayFinds n w (under k ∷ []) r
finds_value n w k r gives stands p d e =
    let it = value_there w k p d (one_step (under k) w p d e) in
    as_found n p d r (subst (λ q. NodeFinds n q (Some d) r) it.1 (subst (λ o. NodeFinds n (place_of w (index_of k w)) o r) it.0 (gives w stands)))

pub finds_itself : (n : Node) (w : Data) → HasData n w → WayFinds n w [] (Some n)
finds_itself n w stands p d e =
    let same = same_Some (0, w) (p, d) e in
    let none : 0 ≡ p = ap (λ (q : ℕ × Data). q.0) same in
    (subst (HasData n) (ap (λ (q : ℕ × Data). q.1) same) stands, omega (arith, none))

pub text_length : (k : List ℕ) → length (spell_text k) ≡ length (head 3 (length k)) + length k
text_length k = length_both (head 3 (length k)) k

-- what is looked for where the way leads begins there
pub placed_node : (n : Node) (way : List Step) (k : ℕ) → ((w : Data) (p : ℕ) (d : Data) → HasData n w → found_at way w ≡ Some (p, d) → k ≡ p)
    → ((w : Data) → HasData n w → Leads way w) → (w : Data) → HasData n w → BeginsAt way w k
placed_node n way k tells leads w stands =
    let l = leads w stands in
    (l.0.1, l.1 ∙ ap (λ m. Some (m, l.0.1)) (sym (tells w l.0.0 l.0.1 stands l.1)))
