-- A way leads to an item that is spelled at its offset.
use Rattle.std.proofs.Common.{◌≡◌, ℕ, zero, suc, ◌+◌, List, [], ◌∷◌, ◌++◌, length, Bool, true, false, cond, Option, Some, refl, sym, ◌∙◌, ap, subst, arith}
use Rattle.std.proofs.lemmas.Option.{same_Some, none-some}
use Rattle.ild_data.specs.Data as T
use Rattle.ild_data.specs.Data.{Data}
use Rattle.ild_data.specs.Key.{same_text}
use Rattle.ild_data.specs.Spell.{head, spell, spell_text, spell_items, spell_members}
use Rattle.ild_typed.specs.Spots.{Step, item, key, under}
use Rattle.ild_typed.specs.Ways.{moved, item_in, key_in, value_in, step_in, found_at, StandsAt, WaysLead}
use Rattle.ild_typed.proofs.Basics.{map_from, then_from}

join_left : (a b c : List ℕ) → a ++ (b ++ c) ≡ (a ++ b) ++ c
join_left [] b c = refl
join_left (x ∷ a) b c = ap (λ s. x ∷ s) (join_left a b c)

length_both : (a b : List ℕ) → length (a ++ b) ≡ length a + length b
length_both [] b = let e : length b ≡ zero + length b = omega arith in e
length_both (x ∷ a) b = let h = length_both a b in omega (arith, h)

-- what stands in bytes stands further on behind others
further : (front bytes : List ℕ) (p : ℕ × Data) → StandsAt bytes p → StandsAt (front ++ bytes) (length front + p.0, p.1)
further front bytes p x =
    let h = length_both front x.front in
    let k = x.place in
    record {
      front = front ++ x.front;
      back = x.back;
      is = ap (λ s. front ++ s) x.is ∙ join_left front x.front (spell p.1 ++ x.back);
      place = h ∙ ap (λ n. length front + n) k;
    }

-- and more may stand behind
more_behind : (bytes rest : List ℕ) (p : ℕ × Data) → StandsAt bytes p → StandsAt (bytes ++ rest) p
more_behind bytes rest p x = record {
  front = x.front;
  back = x.back ++ rest;
  is = ap (λ s. s ++ rest) x.is ∙ sym (join_left x.front (spell p.1 ++ x.back) rest) ∙ ap (λ s. x.front ++ s) (sym (join_left (spell p.1) x.back rest));
  place = x.place;
}

moved_stands : (front bytes : List ℕ) (o : Option (ℕ × Data)) (p : ℕ × Data) → ((q : ℕ × Data) → o ≡ Some q → StandsAt bytes q) → moved (length front) o ≡ Some p → StandsAt (front ++ bytes) p
moved_stands front bytes o p each e =
    let x = map_from {B = ℕ × Data} (λ q. (length front + q.0, q.1)) o p e in
    subst (StandsAt (front ++ bytes)) (same_Some (length front + x.item.0, x.item.1) p x.made) (further front bytes x.item (each x.item x.there))

itself_at : (d : Data) (rest : List ℕ) → StandsAt (spell d ++ rest) (0, d)
itself_at d rest = record { front = []; back = rest; is = refl; place = refl }

item_stands : (n : ℕ) (ds : T.Items) (p : ℕ × Data) → item_in n ds ≡ Some p → StandsAt (spell_items ds) p
item_stands n T.no_items p e = absurd (none-some p e)
item_stands zero (T.item d ds) p e = subst (StandsAt (spell_items (T.item d ds))) (same_Some (0, d) p e) (itself_at d (spell_items ds))
item_stands (suc n) (T.item d ds) p e = moved_stands (spell d) (spell_items ds) (item_in n ds) p (λ q h. item_stands n ds q h) e

entry_front : (l : List ℕ) (d : Data) (ms : T.Members) → spell_text l ++ (spell d ++ spell_members ms) ≡ spell_members (T.member l d ms)
entry_front l d ms = join_left (spell_text l) (spell d) (spell_members ms)

key_stands : (k : List ℕ) (ms : T.Members) (p : ℕ × Data) → key_in k ms ≡ Some p → StandsAt (spell_members ms) p
key_stands k T.no_members p e = absurd (none-some p e)
key_stands k (T.member l d ms) p e = by (same_text k l) e (λ q h. key_stands k ms q h) where
  by : (b : Bool) → cond b (Some (0, T.text l)) (moved (length (spell_text l ++ spell d)) (key_in k ms)) ≡ Some p → ((q : ℕ × Data) → key_in k ms ≡ Some q → StandsAt (spell_members ms) q)
      → StandsAt (spell_members (T.member l d ms)) p
  by true h each =
      subst (StandsAt (spell_members (T.member l d ms))) (same_Some (0, T.text l) p h)
      (subst (λ s. StandsAt s (0, T.text l)) (entry_front l d ms) (itself_at (T.text l) (spell d ++ spell_members ms)))
  by false h each = moved_stands (spell_text l ++ spell d) (spell_members ms) (key_in k ms) p each h

value_stands : (k : List ℕ) (ms : T.Members) (p : ℕ × Data) → value_in k ms ≡ Some p → StandsAt (spell_members ms) p
value_stands k T.no_members p e = absurd (none-some p e)
value_stands k (T.member l d ms) p e = by (same_text k l) e (λ q h. value_stands k ms q h) where
  by : (b : Bool) → cond b (Some (length (spell_text l), d)) (moved (length (spell_text l ++ spell d)) (value_in k ms)) ≡ Some p → ((q : ℕ × Data) → value_in k ms ≡ Some q → StandsAt (spell_members ms) q)
      → StandsAt (spell_members (T.member l d ms)) p
  by true h each =
      subst (StandsAt (spell_members (T.member l d ms))) (same_Some (length (spell_text l), d) p h)
      (record { front = spell_text l; back = spell_members ms; is = sym (entry_front l d ms); place = refl })
  by false h each = moved_stands (spell_text l ++ spell d) (spell_members ms) (value_in k ms) p each h

step_stands : (s : Step) (d : Data) (p : ℕ × Data) → step_in s d ≡ Some p → StandsAt (spell d) p
step_stands (item n) (T.list ds) p e = moved_stands (head 4 (length (T.items_list ds))) (spell_items ds) (item_in n ds) p (λ q h. item_stands n ds q h) e
step_stands (key k) (T.map ms) p e = moved_stands (head 5 (length (T.members_list ms))) (spell_members ms) (key_in k ms) p (λ q h. key_stands k ms q h) e
step_stands (under k) (T.map ms) p e = moved_stands (head 5 (length (T.members_list ms))) (spell_members ms) (value_in k ms) p (λ q h. value_stands k ms q h) e
step_stands s d p e = absurd (none-some p e)

pub ways_lead : WaysLead
ways_lead [] d p e =
    subst (StandsAt (spell d)) (same_Some (0, d) p e) (record { front = []; back = []; is = nothing_behind (spell d); place = refl })
  where
    nothing_behind : (a : List ℕ) → a ≡ a ++ []
    nothing_behind [] = refl
    nothing_behind (x ∷ a) = ap (λ s. x ∷ s) (nothing_behind a)
ways_lead (s ∷ way) d p e =
    let x = then_from (λ (q : ℕ × Data). moved q.0 (found_at way q.1)) (step_in s d) p e in
    let y = step_stands s d x.item x.there in
    let z = map_from {B = ℕ × Data} (λ q. (x.item.0 + q.0, q.1)) (found_at way x.item.1) p x.made in
    let w = ways_lead way x.item.1 z.item z.there in
    let whole : StandsAt (y.front ++ (spell x.item.1 ++ y.back)) (length y.front + z.item.0, z.item.1) = further y.front (spell x.item.1 ++ y.back) z.item (more_behind (spell x.item.1) y.back z.item w) in
    let same : (length y.front + z.item.0, z.item.1) ≡ p = ap (λ n. (n + z.item.0, z.item.1)) y.place ∙ same_Some (x.item.0 + z.item.0, z.item.1) p z.made in
    subst (λ b. StandsAt b p) (sym y.is) (subst (StandsAt (y.front ++ (spell x.item.1 ++ y.back))) same whole)
