-- The first part with a text, found as parts are put in the key order one after the other.
use Rattle.std.proofs.Common.{◌≡◌, ℕ, zero, suc, ◌<◌, ◌≤◌, ◌+◌, Bool, true, false, cond, List, [], ◌∷◌, ◌++◌, Option, Some, None, option_map, Result, Ok, Err, bytes_eq, length, take, map, get_or, refl, ap, sym, ◌∙◌, subst, arith}
use Rattle.std.specs.Prelude.{slice_get}
use Rattle.std.specs.List.{position_from}
use Rattle.std.specs.Option.{IfSome, option_or, option_and_then, unwrap_or}
use Rattle.std.proofs.lemmas.List.{take_all, take_more, length-take-le, length-map}
use Rattle.std.proofs.lemmas.Option.{slice_get-map}
use Rattle.ild_data.specs.Key.{Rises, value_at}
use Rattle.ild_schema.specs.declared.def.Field.{Field}
use Rattle.ild_schema.specs.declared.def.Member.{Member}
use Rattle.ild_schema.specs.declared.def.EnumMember.{EnumMember}
use Rattle.ild_schema.specs.declared.def.TypeDef.{TypeDef}
use Rattle.ild_schema.specs.declared.def.TypeDef.TheVariants as D
use Rattle.ild_schema.specs.declared.by_text.PartIndex.{PartIndex}
use Rattle.ild_schema.specs.declared.row.Row.{Row}
use Rattle.ild_schema.specs.Marks.{mark_text, field_text, member_text}
use Rattle.ild_schema.specs.Indexed.{FindsParts, HasParts, HasPut, InKeyOrder, IsSeat, text_at, under_texts}
use Rattle.ild_schema.specs.Parts.{is_text, part_named, part_names, part_spelled, part_texts, IsPartOf}
use Rattle.ild_schema.specs.Rows.{def_at}
use Rattle.ild_schema.specs.Table.{parts_of}

-- one part more: it is found where none before it is
pub position_last : {X : Type 0} (t : X → Bool) (i : ℕ) (xs : List X) (x : X) → position_from t i (xs ++ x ∷ []) ≡ option_or (position_from t i xs) (cond (t x) (Some (i + length xs)) None)
position_last t i [] x = let same : i + 0 ≡ i = omega arith in ap (λ k. cond (t x) (Some k) None) (sym same)
position_last t i (y ∷ ys) x = by (t y) (position_last t (i + 1) ys x)
  where
    by : (b : Bool) → position_from t (i + 1) (ys ++ x ∷ []) ≡ option_or (position_from t (i + 1) ys) (cond (t x) (Some (i + 1 + length ys)) None)
        → cond b (Some i) (position_from t (i + 1) (ys ++ x ∷ [])) ≡ option_or (cond b (Some i) (position_from t (i + 1) ys)) (cond (t x) (Some (i + suc (length ys))) None)
    by true h = refl
    by false h = let same : i + 1 + length ys ≡ i + suc (length ys) = omega arith in h ∙ ap (λ k. option_or (position_from t (i + 1) ys) (cond (t x) (Some k) None)) same

-- the parts before a number, as they are found
pub record Upto (ts : List (Option (List ℕ))) (i : ℕ) (ns : List ℕ) : Type 0 where
  pub rising : Rises (under_texts ts ns)
  pub found : (q : List ℕ) → value_at q (under_texts ts ns) ≡ position_from (is_text q) 0 (take i ts)

pub upto_none : (ts : List (Option (List ℕ))) (ns : List ℕ) → ns ≡ [] → Upto ts 0 ns
upto_none ts ns is = subst (Upto ts 0) (sym is) (record { rising = tt; found = λ q. refl })

pub text_got : (ts : List (Option (List ℕ))) (i : ℕ) → i < length ts → text_at ts i ≡ get_or ts i None
text_got [] i lt = absurd (omega (arith, lt))
text_got (t ∷ ts) zero lt = refl
text_got (t ∷ ts) (suc i) lt = text_got ts i (omega (arith, lt))

pub upto_more : (ts : List (Option (List ℕ))) (i : ℕ) (old new : List ℕ) → i < length ts → Upto ts i old → HasPut ts i old new → Upto ts (i + 1) new
upto_more ts i old new within h more =
    let x = get_or ts i None in
    let next : take (i + 1) ts ≡ take i ts ++ x ∷ [] = take_more ts i None within in
    let count : 0 + length (take i ts) ≡ i = omega (arith, length-take-le i ts (omega (arith, within))) in
    record {
      rising = more.rising;
      found = λ q. more.found q
          ∙ ap (λ o. option_or o (cond (is_text q (text_at ts i)) (Some i) None)) (h.found q)
          ∙ ap (λ t. option_or (position_from (is_text q) 0 (take i ts)) (cond (is_text q t) (Some i) None)) (text_got ts i within)
          ∙ sym (ap (position_from (is_text q) 0) next ∙ position_last (is_text q) 0 (take i ts) x ∙ ap (λ k. option_or (position_from (is_text q) 0 (take i ts)) (cond (is_text q x) (Some k) None)) count);
    }

pub upto_all : (ts : List (Option (List ℕ))) (i : ℕ) (ns : List ℕ) → length ts ≤ i → Upto ts i ns → InKeyOrder ts ns
upto_all ts i ns all h = record { rising = h.rising; found = λ q. h.found q ∙ ap (position_from (is_text q) 0) (take_all i ts all) }

-- ---- a part by its text

pub got_at : (ns : List ℕ) (i : ℕ) → i < length ns → slice_get ns i ≡ Some (get_or ns i 0)
got_at [] i lt = absurd (omega (arith, lt))
got_at (n ∷ ns) zero lt = refl
got_at (n ∷ ns) (suc i) lt = got_at ns i (omega (arith, lt))

pub seat_within : (ts : List (Option (List ℕ))) (ns : List ℕ) (k : List ℕ) (r : Result ℕ ℕ) (i : ℕ) → IsSeat k (under_texts ts ns) r → r ≡ Ok i → i < length ns
seat_within ts ns k r i found is =
    let seat : IsSeat k (under_texts ts ns) (Ok i) = subst (IsSeat k (under_texts ts ns)) is found in
    omega (arith, seat.found.0, length-map {B = List ℕ × ℕ} ns (λ n. (unwrap_or (text_at ts n) [], n)))

pub seat_found : (ts : List (Option (List ℕ))) (ns : List ℕ) (k : List ℕ) (r : Result ℕ ℕ) (i : ℕ) → InKeyOrder ts ns → IsSeat k (under_texts ts ns) r → r ≡ Ok i → Some (get_or ns i 0) ≡ position_from (is_text k) 0 ts
seat_found ts ns k r i h found is =
    let seat : IsSeat k (under_texts ts ns) (Ok i) = subst (IsSeat k (under_texts ts ns)) is found in
    let f : ℕ → List ℕ × ℕ = λ n. (unwrap_or (text_at ts n) [], n) in
    let at : slice_get (map f ns) i ≡ Some (f (get_or ns i 0)) = slice_get-map f ns i ∙ ap (option_map f) (got_at ns i (seat_within ts ns k r i found is)) in
    sym (ap (option_map (λ (p : List ℕ × ℕ). p.1)) at) ∙ sym seat.found.1 ∙ h.found k

pub seat_absent : (ts : List (Option (List ℕ))) (ns : List ℕ) (k : List ℕ) (r : Result ℕ ℕ) (i : ℕ) → InKeyOrder ts ns → IsSeat k (under_texts ts ns) r → r ≡ Err i → None ≡ position_from (is_text k) 0 ts
seat_absent ts ns k r i h found is =
    let seat : IsSeat k (under_texts ts ns) (Err i) = subst (IsSeat k (under_texts ts ns)) is found in
    sym seat.absent.1 ∙ h.found k

-- ---- the texts of parts

pub position_map : {X Y : Type 0} (t : Y → Bool) (h : X → Y) (i : ℕ) (xs : List X) → position_from t i (map h xs) ≡ position_from (λ x. t (h x)) i xs
position_map t h i [] = refl
position_map t h i (x ∷ xs) = ap (cond (t (h x)) (Some i)) (position_map t h (i + 1) xs)

named_is : (q : List ℕ) (d : TypeDef) → position_from (is_text q) 0 (part_names d) ≡ part_named q d
named_is q (D.Struct s) = position_map (is_text q) (λ (f : Field). Some f.name) 0 s.fields
named_is q (D.Union u) = position_map (is_text q) (λ (m : Member). Some m.name) 0 u.members
named_is q (D.Enum e) = position_map (is_text q) (λ (m : EnumMember). Some m.name) 0 e.members
named_is q d = refl

spelled_is : (q : List ℕ) (d : TypeDef) → position_from (is_text q) 0 (part_texts d) ≡ part_spelled q d
spelled_is q (D.Struct s) = position_map (is_text q) (λ (f : Field). Some (field_text f)) 0 s.fields
spelled_is q (D.Union u) = position_map (is_text q) (λ (m : Member). mark_text m.mark) 0 u.members
spelled_is q (D.Enum e) = position_map (is_text q) (λ (m : EnumMember). Some (member_text m)) 0 e.members
spelled_is q d = refl

-- ---- for each row what finds its parts

parts_push : (rows : List Row) (parts : List PartIndex) (r : Row) (index : PartIndex) → HasParts rows parts → FindsParts r.def index → HasParts (rows ++ r ∷ []) (parts ++ index ∷ [])
parts_push [] [] r index h here = (here, tt)
parts_push [] (p ∷ ps) r index h here = absurd h
parts_push (s ∷ rs) [] r index h here = absurd h
parts_push (s ∷ rs) (p ∷ ps) r index h here = (h.0, parts_push rs ps r index h.1 here)

pub parts_more : (rows : List Row) (parts : List PartIndex) (i : ℕ) (r : Row) (index : PartIndex) → i < length rows → r ≡ get_or rows i r → HasParts (take i rows) parts → FindsParts r.def index → HasParts (take (i + 1) rows) (parts ++ index ∷ [])
parts_more rows parts i r index within read h here =
    let next : take (i + 1) rows ≡ take i rows ++ r ∷ [] = take_more rows i r within ∙ ap (λ y. take i rows ++ y ∷ []) (sym read) in
    subst (λ rs. HasParts rs (parts ++ index ∷ [])) (sym next) (parts_push (take i rows) parts r index h here)

pub parts_count : (rows : List Row) (parts : List PartIndex) → HasParts rows parts → length parts ≡ length rows
parts_count [] [] h = refl
parts_count [] (p ∷ ps) h = absurd h
parts_count (r ∷ rs) [] h = absurd h
parts_count (r ∷ rs) (p ∷ ps) h = ap suc (parts_count rs ps h.1)

pub record PartsAt (rows : List Row) (n : ℕ) (d : TypeDef) (index : PartIndex) : Type 0 where
  pub def : def_at rows n ≡ Some d
  pub finds : FindsParts d index

pub parts_at : (rows : List Row) (parts : List PartIndex) (n : ℕ) (r : Row) (index : PartIndex) → HasParts rows parts → n < length rows → r ≡ get_or rows n r → index ≡ get_or parts n index → PartsAt rows n r.def index
parts_at [] ps n r index h within at is = absurd (omega (arith, within))
parts_at (q ∷ rs) [] n r index h within at is = absurd h
parts_at (q ∷ rs) (p ∷ ps) zero r index h within at is = record {
  def = ap (λ (x : Row). Some x.def) (sym at);
  finds = subst (λ x. FindsParts r.def x) (sym is) (subst (λ (x : Row). FindsParts x.def p) (sym at) h.0);
}
parts_at (q ∷ rs) (p ∷ ps) (suc n) r index h within at is = let rest = parts_at rs ps n r index h.1 (omega (arith, within)) at is in record { def = rest.def; finds = rest.finds }

pub order_at : (rows : List Row) (parts : List PartIndex) (n : ℕ) (index : PartIndex) → HasParts rows parts → n < length rows → index ≡ get_or parts n index → IfSome (def_at rows n) (λ d. InKeyOrder (part_texts d) index.texts.items)
order_at [] ps n index h within is = absurd (omega (arith, within))
order_at (r ∷ rs) [] n index h within is = absurd h
order_at (r ∷ rs) (p ∷ ps) zero index h within is = subst (λ (x : PartIndex). InKeyOrder (part_texts r.def) x.texts.items) (sym is) h.0.spelled
order_at (r ∷ rs) (p ∷ ps) (suc n) index h within is = order_at rs ps n index h.1 (omega (arith, within)) is

-- ---- what is found is one of the parts

position_within : {X : Type 0} (t : X → Bool) (i : ℕ) (xs : List X) → IfSome (position_from t i xs) (λ n. n < i + length xs)
position_within t i [] = tt
position_within t i (x ∷ xs) = by (t x) (position_from t (i + 1) xs) (position_within t (i + 1) xs)
  where
    by : (b : Bool) (o : Option ℕ) → IfSome o (λ n. n < i + 1 + length xs) → IfSome (cond b (Some i) o) (λ n. n < i + suc (length xs))
    by true o h = omega arith
    by false None h = tt
    by false (Some n) h = omega arith

from_zero : (o : Option ℕ) (count : ℕ) → IfSome o (λ n. n < 0 + count) → IfSome o (λ n. n < count)
from_zero None count h = tt
from_zero (Some n) count h = omega arith

named_within : (name : List ℕ) (d : TypeDef) → IfSome (part_named name d) (λ n. n < parts_of d)
named_within name (D.Struct s) = from_zero _ (length s.fields) (position_within (λ f. bytes_eq name f.name) 0 s.fields)
named_within name (D.Union u) = from_zero _ (length u.members) (position_within (λ m. bytes_eq name m.name) 0 u.members)
named_within name (D.Enum e) = from_zero _ (length e.members) (position_within (λ m. bytes_eq name m.name) 0 e.members)
named_within name d = tt

spelled_within : (text : List ℕ) (d : TypeDef) → IfSome (part_spelled text d) (λ n. n < parts_of d)
spelled_within text (D.Struct s) = from_zero _ (length s.fields) (position_within (λ f. bytes_eq text (field_text f)) 0 s.fields)
spelled_within text (D.Union u) = from_zero _ (length u.members) (position_within (λ m. is_text text (mark_text m.mark)) 0 u.members)
spelled_within text (D.Enum e) = from_zero _ (length e.members) (position_within (λ m. bytes_eq text (member_text m)) 0 e.members)
spelled_within text d = tt

-- what is found by a text, with the type in which it is
pub record FoundIn (rows : List Row) (n : ℕ) (part_of : TypeDef → Option ℕ) (found : Option ℕ) : Type 0 where
  pub same : found ≡ option_and_then part_of (def_at rows n)
  pub within : IfSome found (IsPartOf rows n)

found_in : (rows : List Row) (n : ℕ) (part_of : TypeDef → Option ℕ) (found : Option ℕ) (d : TypeDef) → def_at rows n ≡ Some d → found ≡ part_of d → IfSome (part_of d) (λ i. i < parts_of d) → FoundIn rows n part_of found
found_in rows n part_of found d is same within = record {
  same = same ∙ ap (λ o. option_and_then part_of o) (sym is);
  within = subst (λ o. IfSome o (IsPartOf rows n)) (sym same) (by (part_of d) within);
}
  where
    by : (o : Option ℕ) → IfSome o (λ i. i < parts_of d) → IfSome o (IsPartOf rows n)
    by None h = tt
    by (Some i) h = subst (λ o. IfSome o (λ d. i < parts_of d)) (sym is) h

pub found_named : (rows : List Row) (n : ℕ) (d : TypeDef) (name : List ℕ) (found : Option ℕ) → def_at rows n ≡ Some d → found ≡ position_from (is_text name) 0 (part_names d) → FoundIn rows n (part_named name) found
found_named rows n d name found at same = found_in rows n (part_named name) found d at (same ∙ named_is name d) (named_within name d)

pub found_spelled : (rows : List Row) (n : ℕ) (d : TypeDef) (text : List ℕ) (found : Option ℕ) → def_at rows n ≡ Some d → found ≡ position_from (is_text text) 0 (part_texts d) → FoundIn rows n (part_spelled text) found
found_spelled rows n d text found at same = found_in rows n (part_spelled text) found d at (same ∙ spelled_is text d) (spelled_within text d)
