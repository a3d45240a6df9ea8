-- The sizes of spelled texts, items and entries: what is made of others is no shorter.
use Rattle.std.proofs.Common.{◌≡◌, ℕ, zero, suc, ◌+◌, ◌≤◌, Bool, true, false, cond, List, [], ◌∷◌, ◌++◌, length, length-append, map, slice_get, Option, Some, None, refl, sym, ap, ◌∙◌, subst, arith}
use Rattle.std.specs.Prelude.{option_map}
use Rattle.std.specs.declared.cmp.Ordering.{Ordering}
use Rattle.std.specs.declared.cmp.Ordering.TheVariants.{Equal, Greater, Less}
use Rattle.std.proofs.lemmas.Option.{none-some, same_Some}
use Rattle.ild_typed.proofs.Entries.{only_text_data}
use Rattle.ild_data.proofs.Options.{map_some}
use Rattle.ild_data.proofs.Lists.{length-members}
use Rattle.ild_data.proofs.Rising.{agrees}
use Rattle.ild_data.specs.Data as T
use Rattle.ild_data.specs.Data.{Data, items_list, items_of, members_list, members_of}
use Rattle.ild_data.specs.Key.{key_cmp, put, same_text, value_at}
use Rattle.ild_data.specs.Spell.{head, spell, spell_items, spell_members, spell_text}
use Rattle.ild_path_changes.proofs.Each.{joined as both}
use Rattle.ild_schema.specs.Joins.{joined, pair_text}
use Rattle.ild_splice.proofs.Keyed.{put_greater, put_less}
use Rattle.ild_typed.specs.Strings.{map_data, pair_data, text_in, text_pairs, texts_in}
use Rattle.ild_data.proofs.HeadSizes.{head_more, text_more}

-- ---- items

pub item_in : (ds : List Data) (i : ℕ) (d : Data) → slice_get ds i ≡ Some d → length (spell d) ≤ length (spell_items (items_of ds))
item_in [] i d e = absurd (none-some d e)
item_in (x ∷ xs) zero d e = let same = ap (λ y. length (spell y)) (same_Some x d e) in omega (arith, same, length-append (spell x) (spell_items (items_of xs)))
item_in (x ∷ xs) (suc i) d e = let more = item_in xs i d e in omega (arith, more, length-append (spell x) (spell_items (items_of xs)))

in_items : (ds : T.Items) → length (spell_items ds) ≤ length (spell (T.list ds))
in_items ds = omega (arith, length-append (head 4 (length (items_list ds))) (spell_items ds))

pub in_list : (ds : List Data) (i : ℕ) (d : Data) → slice_get ds i ≡ Some d → length (spell d) ≤ length (spell (T.list (items_of ds)))
in_list ds i d e = let a = item_in ds i d e in let b = in_items (items_of ds) in omega (arith, a, b)

-- ---- entries

entry_step : (m : List ℕ × Data) (o : Option Data) (d : Data) (n r : ℕ) (b : Bool) → cond b (Some m.1) o ≡ Some d → length (spell m.1) ≤ n → r ≤ n → (o ≡ Some d → length (spell d) ≤ r) → length (spell d) ≤ n
entry_step m o d n r true e first le rest = subst (λ y. length (spell y) ≤ n) (same_Some m.1 d e) first
entry_step m o d n r false e first le rest = let more = rest e in omega (arith, more, le)

members_more : (k : List ℕ) (x : Data) (ms : T.Members) → length (spell (x)) + length (spell_members ms) ≤ length (spell_members (T.member k x ms))
members_more k x ms = omega (arith, length-append (spell_text k ++ spell x) (spell_members ms), length-append (spell_text k) (spell x))

pub entry_in : (k : List ℕ) (ms : List (List ℕ × Data)) (d : Data) → value_at k ms ≡ Some d → length (spell d) ≤ length (spell_members (members_of ms))
entry_in k [] d e = absurd (none-some d e)
entry_in k (m ∷ ms) d e =
    let more = members_more m.0 m.1 (members_of ms) in
    entry_step m (value_at k ms) d (length (spell_members (members_of (m ∷ ms)))) (length (spell_members (members_of ms))) (same_text k m.0) e (omega (arith, more)) (omega (arith, more)) (λ g. entry_in k ms d g)

in_members : (ms : T.Members) → length (spell_members ms) ≤ length (spell (T.map ms))
in_members ms = omega (arith, length-append (head 5 (length (members_list ms))) (spell_members ms))

pub in_map : (k : List ℕ) (ms : List (List ℕ × Data)) (d : Data) → value_at k ms ≡ Some d → length (spell d) ≤ length (spell (map_data ms))
in_map k ms d e = let a = entry_in k ms d e in let b = in_members (members_of ms) in omega (arith, a, b)

pair_size : (m : List ℕ × Data) → length (spell m.1) ≤ length (spell (pair_data m))
pair_size m =
    let a = in_items (T.item (T.text m.0) (T.item m.1 T.no_items)) in
    omega (arith, a, length-append (spell (T.text m.0)) (spell m.1 ++ []), length-append (spell m.1) [])

pub pair_in : (k : List ℕ) (ms : List (List ℕ × Data)) (d : Data) → value_at k ms ≡ Some d → length (spell d) ≤ length (spell_items (items_of (map pair_data ms)))
pair_in k [] d e = absurd (none-some d e)
pair_in k (m ∷ ms) d e =
    let more = length-append (spell (pair_data m)) (spell_items (items_of (map pair_data ms))) in
    let first = pair_size m in
    entry_step m (value_at k ms) d (length (spell_items (items_of (map pair_data (m ∷ ms))))) (length (spell_items (items_of (map pair_data ms)))) (same_text k m.0) e (omega (arith, more, first)) (omega (arith, more)) (λ g. pair_in k ms d g)

pub in_pairs : (k : List ℕ) (ms : List (List ℕ × Data)) (d : Data) → value_at k ms ≡ Some d → length (spell d) ≤ length (spell (T.list (items_of (map pair_data ms))))
in_pairs k ms d e = let a = pair_in k ms d e in let b = in_items (items_of (map pair_data ms)) in omega (arith, a, b)

-- an entry more
none_behind : (m : List ℕ × Data) (o : Option Data) (b : Bool) → cond b (Some m.1) o ≡ None → (b ≡ true → ⊥) × (o ≡ None)
none_behind m o true e = absurd (none-some m.1 (sym e))
none_behind m o false e = (λ wrong. absurd cc, e)

record Grows (ms ns : List (List ℕ × Data)) : Type 0 where
  count : length ms ≤ length ns
  size : length (spell_members (members_of ms)) ≤ length (spell_members (members_of ns))

first_put : (k : List ℕ) (x : Data) (ms : List (List ℕ × Data)) → Grows ms ((k, x) ∷ ms)
first_put k x ms = let more = members_more k x (members_of ms) in record { count = omega arith; size = omega (arith, more) }

later_put : (m : List ℕ × Data) (ms ns : List (List ℕ × Data)) → Grows ms ns → Grows (m ∷ ms) (m ∷ ns)
later_put m ms ns g = record {
  count = let a = g.count in omega (arith, a);
  size = let a = g.size in omega (arith, a, length-append (spell_text m.0 ++ spell m.1) (spell_members (members_of ms)), length-append (spell_text m.0 ++ spell m.1) (spell_members (members_of ns)));
}

put_step : (k : List ℕ) (x : Data) (m : List ℕ × Data) (ms : List (List ℕ × Data)) (o : Ordering) → key_cmp k m.0 ≡ o → (same_text k m.0 ≡ true → ⊥) → Grows ms (put k x ms) → Grows (m ∷ ms) (put k x (m ∷ ms))
put_step k x m ms Less e apart rest = subst (Grows (m ∷ ms)) (sym (put_less k x m ms e)) (first_put k x (m ∷ ms))
put_step k x m ms Equal e apart rest = absurd (apart (agrees k m.0 (same_text k m.0) refl e))
put_step k x m ms Greater e apart rest = subst (Grows (m ∷ ms)) (sym (put_greater k x m ms e)) (later_put m ms (put k x ms) rest)

put_grows : (k : List ℕ) (x : Data) (ms : List (List ℕ × Data)) → value_at k ms ≡ None → Grows ms (put k x ms)
put_grows k x [] e = first_put k x []
put_grows k x (m ∷ ms) e = let n = none_behind m (value_at k ms) (same_text k m.0) e in put_step k x m ms (key_cmp k m.0) refl n.0 (put_grows k x ms n.1)

pub in_put : (k : List ℕ) (x : Data) (ms : List (List ℕ × Data)) → value_at k ms ≡ None → length (spell (map_data ms)) ≤ length (spell (map_data (put k x ms)))
in_put k x ms e =
    let g = put_grows k x ms e in
    let ns = put k x ms in
    let a = g.count in
    let b = g.size in
    let less = head_more 5 (length (members_list (members_of ms))) (length (members_list (members_of ns))) (omega (arith, length-members ms, length-members ns, a)) in
    omega (arith, b, less, length-append (head 5 (length (members_list (members_of ms)))) (spell_members (members_of ms)), length-append (head 5 (length (members_list (members_of ns)))) (spell_members (members_of ns)))

-- ---- texts

pub part_within : (delim : List ℕ) (ps : List (List ℕ)) (i : ℕ) (s : List ℕ) → slice_get ps i ≡ Some s → length s ≤ length (joined delim ps)
part_within delim [] i s e = absurd (none-some s e)
part_within delim (p ∷ []) zero s e = let same = ap length (same_Some p s e) in omega (arith, same)
part_within delim (p ∷ []) (suc i) s e = absurd (none-some s e)
part_within delim (p ∷ q ∷ ps) zero s e = let same = ap length (same_Some p s e) in omega (arith, same, length-append p (delim ++ joined delim (q ∷ ps)))
part_within delim (p ∷ q ∷ ps) (suc i) s e =
    let more = part_within delim (q ∷ ps) i s e in
    omega (arith, more, length-append p (delim ++ joined delim (q ∷ ps)), length-append delim (joined delim (q ∷ ps)))

-- the text of an item of texts
pub text_at : (ds : List Data) (ss : List (List ℕ)) (i : ℕ) (d : Data) → texts_in ds ≡ Some ss → slice_get ds i ≡ Some d → (s : List ℕ) × (d ≡ T.text s) × (slice_get ss i ≡ Some s)
text_at [] ss i d h e = absurd (none-some d e)
text_at (x ∷ xs) ss zero d h e =
    let j = both (text_in x) (texts_in xs) ss h in
    (j.first, sym (same_Some x d e) ∙ only_text_data x j.first j.is_first, ap (λ ys. slice_get ys 0) (sym j.whole))
text_at (x ∷ xs) ss (suc i) d h e =
    let j = both (text_in x) (texts_in xs) ss h in
    let more = text_at xs j.rest i d j.is_rest e in
    (more.0, more.1, ap (λ ys. slice_get ys (suc i)) (sym j.whole) ∙ more.2)

pub in_joined : (delim : List ℕ) (ds : List Data) (ss : List (List ℕ)) (i : ℕ) (d : Data) → texts_in ds ≡ Some ss → slice_get ds i ≡ Some d → length (spell d) ≤ length (spell (T.text (joined delim ss)))
in_joined delim ds ss i d h e =
    let x = text_at ds ss i d h e in
    subst (λ y. length (spell y) ≤ length (spell (T.text (joined delim ss)))) (sym x.1) (text_more x.0 (joined delim ss) (part_within delim ss i x.0 x.2))

-- the text of a pair
abbrev pub PairAt : List ℕ → List (List ℕ × List ℕ) → Data → Type 0
PairAt inner ps d = (s : List ℕ) × (d ≡ T.text s) × (i : ℕ) × (t : List ℕ) × (slice_get (map (pair_text inner) ps) i ≡ Some t) × (length s ≤ length t)

pair_step : (inner : List ℕ) (m : List ℕ × Data) (o : Option Data) (s : List ℕ) (qs ps : List (List ℕ × List ℕ)) (d : Data) (b : Bool) → cond b (Some m.1) o ≡ Some d → text_in m.1 ≡ Some s → (m.0, s) ∷ qs ≡ ps → (o ≡ Some d → PairAt inner qs d) → PairAt inner ps d
pair_step inner m o s qs ps d true e is all rest =
    (s, sym (same_Some m.1 d e) ∙ only_text_data m.1 s is, 0, pair_text inner (m.0, s), ap (λ ys. slice_get (map (pair_text inner) ys) 0) (sym all), omega (arith, length-append m.0 (inner ++ s), length-append inner s))
pair_step inner m o s qs ps d false e is all rest =
    let x = rest e in
    (x.0, x.1, suc x.2, x.3, ap (λ ys. slice_get (map (pair_text inner) ys) (suc x.2)) (sym all) ∙ x.4, x.5)

pub pair_at : (inner k : List ℕ) (ms : List (List ℕ × Data)) (ps : List (List ℕ × List ℕ)) (d : Data) → text_pairs ms ≡ Some ps → value_at k ms ≡ Some d → PairAt inner ps d
pair_at inner k [] ps d h e = absurd (none-some d e)
pair_at inner k (m ∷ ms) ps d h e =
    let j = both (option_map (λ s. (m.0, s)) (text_in m.1)) (text_pairs ms) ps h in
    let x = map_some (λ s. (m.0, s)) (text_in m.1) j.first j.is_first in
    pair_step inner m (value_at k ms) x.0 j.rest ps d (same_text k m.0) e x.1 (ap (λ y. y ∷ j.rest) x.2 ∙ j.whole) (λ g. pair_at inner k ms j.rest d j.is_rest g)

pub in_paired : (inner entry k : List ℕ) (ms : List (List ℕ × Data)) (ps : List (List ℕ × List ℕ)) (d : Data) → text_pairs ms ≡ Some ps → value_at k ms ≡ Some d → length (spell d) ≤ length (spell (T.text (joined entry (map (pair_text inner) ps))))
in_paired inner entry k ms ps d h e =
    let x = pair_at inner k ms ps d h e in
    let within = part_within entry (map (pair_text inner) ps) x.2 x.3 x.4 in
    subst (λ y. length (spell y) ≤ length (spell (T.text (joined entry (map (pair_text inner) ps))))) (sym x.1) (text_more x.0 (joined entry (map (pair_text inner) ps)) (omega (arith, x.5, within)))
