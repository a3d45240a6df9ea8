-- Data are a union's layer exactly where no cause holds of them, form by form.
use Rattle.std.proofs.Common.{◌≡◌, ℕ, List, [], ◌∷◌, ◌++◌, length, Bool, true, false, cond, ◌||◌, ◌&&◌, not, Option, Some, None, option_map, refl, sym, ◌∙◌, ap, subst, arith}
use Rattle.std.specs.Prelude.{nat_eq, is_none, is_some, option_and_then, slice_get}
use Rattle.std.specs.List.{list_any}
use Rattle.std.specs.Cmp.Lexicographic.{same_text as text_same, other_text}
use Rattle.std.proofs.lemmas.Option.{same_Some, none-some}
use Rattle.std.proofs.lemmas.Bool.{eqb-true, or_parts, or_from, or_left, or_right}
use Rattle.ild_data.specs.Data as T
use Rattle.ild_data.specs.Data.{Data}
use Rattle.ild_data.specs.Key.{same_text, value_at, put, without, Rises}
use Rattle.ild_data.proofs.Rising.{rises_put, rises_without}
use Rattle.ild_data.proofs.Lists.{members_list-members_of, members_of-members_list}
use Rattle.ild_schema.specs.declared.def.KindWord.{KindWord}
use Rattle.ild_schema.specs.declared.def.UnionForm.{UnionForm}
use Rattle.ild_schema.specs.declared.def.UnionForm.TheVariants as UF
use Rattle.ild_schema.specs.declared.def.Member.{Member}
use Rattle.ild_schema.specs.Prefixes.{begins}
use Rattle.ild_typed.specs.Kinds.{kind_word_of}
use Rattle.ild_schema.specs.DataKinds.{same_kind, is_marked, union_has}
use Rattle.ild_schema.specs.Marks.{mark_text, mark_kind}
use Rattle.ild_data.specs.Hex.{bytes_of_hex}
use Rattle.ild_typed.specs.Strings.{text_in, bytes_in, members_in, map_data}
use Rattle.ild_typed.specs.Composed.{inlined, marked_form, member_form, union_form}
use Rattle.ild_typed.specs.Named.{where_some, names, is_among}
use Rattle.ild_typed.specs.UnionWhy.{is_discriminant, is_no_member, has_prefix, has_bytes_prefix, union_name, union_missing, union_count, union_prefix, union_member}
use Rattle.ild_typed.proofs.Basics.{then_from, map_from, true_from}
use Rattle.ild_typed.proofs.Entries.{value_put, value_first, same_text_self, only_text_data}
use Rattle.ild_typed.proofs.Rising.{rising_same, value_without}
use Rattle.ild_typed.proofs.OfKinds.{any_at}
use Rattle.ild_typed.proofs.Cleans.{not_false, not_true, or_rest, never, pass_none, Found, found}
use Rattle.ild_typed.proofs.CleanMaps.{all_put, among_value}
use Rattle.ild_typed.proofs.CleanTexts.{begins_itself}
use Rattle.ild_typed.specs.WhyLaws.{KeysRise}

pub record UnionClean (form : UnionForm) (ms : List Member) (t : Data) : Type 0 where
  pub name : union_name form t ≡ false
  pub missing : union_missing form t ≡ false
  pub count : union_count form t ≡ false
  pub prefix : union_prefix form ms t ≡ false
  pub member : union_member form ms t ≡ false

-- a member's own text is one of the discriminants
its_text : (ms : List Member) (n : ℕ) (m : Member) (s : List ℕ) → slice_get ms n ≡ Some m → mark_text m.mark ≡ Some s → is_discriminant ms s ≡ true
its_text ms n m s there text =
    any_at (λ k. where_some (λ r. same_text r s) (mark_text k.mark)) ms n m there (ap (where_some (λ r. same_text r s)) text ∙ same_text_self s)

module _ (ms : List Member) (n : ℕ) (m : Member) (s : List ℕ) (there : slice_get ms n ≡ Some m) (text : mark_text m.mark ≡ Some s) where
  keyed_clean : (d : Data) → UnionClean UF.Keyed ms (map_data ((s, d) ∷ []))
  keyed_clean d = record {
    name = refl;
    missing = refl;
    count = refl;
    prefix = refl;
    member = or_from (not (is_discriminant ms s)) false (not_true (is_discriminant ms s) (its_text ms n m s there text)) refl;
  }

  -- the discriminant stands under the key
  found_key : (key : List ℕ) (es : List (List ℕ × Data)) → value_at key (T.members_list (T.members_of (put key (T.text s) es))) ≡ Some (T.text s)
  found_key key es = ap (value_at key) (members_list-members_of (put key (T.text s) es)) ∙ value_put key key (T.text s) es ∙ value_first key (T.text s) es

  its_member : (key : List ℕ) (es : List (List ℕ × Data)) → where_some (is_no_member ms) (value_at key (T.members_list (T.members_of (put key (T.text s) es)))) ≡ false
  its_member key es = ap (where_some (is_no_member ms)) (found_key key es) ∙ not_true (is_discriminant ms s) (its_text ms n m s there text)

  inline_clean : (key : List ℕ) (es : List (List ℕ × Data)) → UnionClean (UF.Inline key) ms (map_data (put key (T.text s) es))
  inline_clean key es = record {
    name = refl;
    missing = ap is_none (found_key key es);
    count = refl;
    prefix = refl;
    member = its_member key es;
  }

  envelope_clean : (key content : List ℕ) (d : Data) → UnionClean (UF.Envelope key content) ms (map_data (put key (T.text s) ((content, d) ∷ [])))
  envelope_clean key content d =
      let back = members_list-members_of (put key (T.text s) ((content, d) ∷ [])) in
      let odd : List ℕ × Data → Bool = λ e. not (same_text key e.0 || same_text content e.0) in
      let key_fine : odd (key, T.text s) ≡ false = not_true (same_text key key || same_text content key) (or_left (same_text key key) (same_text content key) (same_text_self key)) in
      let content_fine : odd (content, d) ≡ false = not_true (same_text key content || same_text content content) (or_right (same_text key content) (same_text content content) (same_text_self content)) in
      record {
        name = ap (list_any odd) back
            ∙ pass_none odd (put key (T.text s) ((content, d) ∷ [])) (all_put (λ e. odd e ≡ false) key (T.text s) ((content, d) ∷ []) key_fine (content_fine, tt));
        missing = or_from (is_none (value_at key (T.members_list (T.members_of (put key (T.text s) ((content, d) ∷ []))))))
            (is_none (value_at content (T.members_list (T.members_of (put key (T.text s) ((content, d) ∷ []))))))
            (ap is_none (found_key key ((content, d) ∷ [])))
            (ap (λ es. is_none (value_at content es)) back ∙ ap is_none (value_put content key (T.text s) ((content, d) ∷ [])) ∙ either (same_text content key) (same_text content content) (same_text_self content));
        count = refl;
        prefix = refl;
        member = its_member key ((content, d) ∷ []);
      }
    where
      either : (a b : Bool) → b ≡ true → is_none (cond a (Some (T.text s)) (cond b (Some d) None)) ≡ false
      either true b e = refl
      either false true e = refl
      either false false e = absurd cc

  prefix_clean : (r : List ℕ) → UnionClean UF.StringPrefix ms (T.text (s ++ r))
  prefix_clean r = record {
    name = refl;
    missing = refl;
    count = refl;
    prefix = not_true (has_prefix ms (s ++ r))
        (any_at (λ k. where_some (λ p. begins p (s ++ r)) (mark_text k.mark)) ms n m there (ap (where_some (λ p. begins p (s ++ r))) text ∙ begins_itself s r));
    member = refl;
  }

  bytes_clean : (front r : List ℕ) → bytes_of_hex s ≡ Some front → UnionClean UF.BytesPrefix ms (T.bytes (front ++ r))
  bytes_clean front r hex = record {
    name = refl;
    missing = refl;
    count = refl;
    prefix = not_true (has_bytes_prefix ms (front ++ r))
        (any_at (λ k. where_some (λ p. begins p (front ++ r)) (option_and_then bytes_of_hex (mark_text k.mark))) ms n m there
        (ap (λ o. where_some (λ p. begins p (front ++ r)) (option_and_then bytes_of_hex o)) text ∙ ap (where_some (λ p. begins p (front ++ r))) hex ∙ begins_itself front r));
    member = refl;
  }

marked_clean : (form : UnionForm) (ms : List Member) (n : ℕ) (m : Member) (d : Data) (s : List ℕ) (t : Data) → slice_get ms n ≡ Some m → mark_text m.mark ≡ Some s → marked_form form d s ≡ Some t → UnionClean form ms t
marked_clean UF.Keyed ms n m d s t there text h = subst (UnionClean UF.Keyed ms) (same_Some (map_data ((s, d) ∷ [])) t h) (keyed_clean ms n m s there text d)
marked_clean UF.Kinded ms n m d s t there text h = absurd (none-some t h)
marked_clean UF.StringPrefix ms n m d s t there text h =
    let x = map_from (λ r. T.text (s ++ r)) (text_in d) t h in
    subst (UnionClean UF.StringPrefix ms) (same_Some (T.text (s ++ x.item)) t x.made) (prefix_clean ms n m s there text x.item)
marked_clean UF.BytesPrefix ms n m d s t there text h =
    let y = then_from (λ front. option_map (λ r. T.bytes (front ++ r)) (bytes_in d)) (bytes_of_hex s) t h in
    let x = map_from (λ r. T.bytes (y.item ++ r)) (bytes_in d) t y.made in
    subst (UnionClean UF.BytesPrefix ms) (same_Some (T.bytes (y.item ++ x.item)) t x.made) (bytes_clean ms n m s there text y.item x.item y.there)
marked_clean (UF.Envelope key content) ms n m d s t there text h =
    subst (UnionClean (UF.Envelope key content) ms) (same_Some (map_data (put key (T.text s) ((content, d) ∷ []))) t h) (envelope_clean ms n m s there text key content d)
marked_clean (UF.Inline key) ms n m d s t there text h =
    let y = then_from (inlined key s) (members_in d) t h in
    let x = true_from (is_none (value_at key y.item)) (map_data (put key (T.text s) y.item)) t y.made in
    subst (UnionClean (UF.Inline key) ms) x.1 (inline_clean ms n m s there text key y.item)

by_text : (form : UnionForm) (ms : List Member) (p : ℕ × Data) (t : Data) → ((m : Member) → member_form form p.1 m ≡ Some t → option_and_then (marked_form form p.1) (mark_text m.mark) ≡ Some t)
    → union_form form ms p ≡ Some t → UnionClean form ms t
by_text form ms p t marked h =
    let x = then_from (member_form form p.1) (slice_get ms p.0) t h in
    let y = then_from (marked_form form p.1) (mark_text x.item.mark) t (marked x.item x.made) in
    marked_clean form ms p.0 x.item p.1 y.item t x.there y.there y.made

pub union_clean : (form : UnionForm) (ms : List Member) (p : ℕ × Data) (t : Data) → union_form form ms p ≡ Some t → UnionClean form ms t
union_clean UF.Keyed ms p t h = by_text UF.Keyed ms p t (λ m k. k) h
union_clean UF.Kinded ms p t h = record { name = refl; missing = refl; count = refl; prefix = refl; member = refl }
union_clean UF.StringPrefix ms p t h = by_text UF.StringPrefix ms p t (λ m k. k) h
union_clean UF.BytesPrefix ms p t h = by_text UF.BytesPrefix ms p t (λ m k. k) h
union_clean (UF.Envelope key content) ms p t h = by_text (UF.Envelope key content) ms p t (λ m k. k) h
union_clean (UF.Inline key) ms p t h = by_text (UF.Inline key) ms p t (λ m k. k) h

-- ---- data of which no cause holds

pub record UnionFor (form : UnionForm) (ms : List Member) (t : Data) : Type 0 where
  pub member : ℕ
  pub part : Data
  pub there : union_form form ms (member, part) ≡ Some t

record Passed {A : Type 0} (p : A → Bool) (o : Option A) : Type 0 where
  one : A
  there : o ≡ Some one
  passes : p one ≡ true

passed : {A : Type 0} (p : A → Bool) (o : Option A) → where_some p o ≡ true → Passed p o
passed p None e = absurd cc
passed p (Some a) e = record { one = a; there = refl; passes = e }

-- a member with this text
record Marked (ms : List Member) (k : List ℕ) : Type 0 where
  place : ℕ
  one : Member
  there : slice_get ms place ≡ Some one
  text : mark_text one.mark ≡ Some k

marked_by : (ms : List Member) (k : List ℕ) → is_discriminant ms k ≡ true → Marked ms k
marked_by ms k e =
    let x = found (λ m. where_some (λ s. same_text s k) (mark_text m.mark)) ms e in
    let y = passed (λ s. same_text s k) (mark_text x.one.mark) x.passes in
    record { place = x.place; one = x.one; there = x.there; text = y.there ∙ ap Some (text_same y.one k (sym y.passes)) }

kinded_for : (ms : List Member) (t : Data) → union_has UF.Kinded ms (kind_word_of t) ≡ true → UnionFor UF.Kinded ms t
kinded_for ms t e =
    let x = found (λ m. is_marked (kind_word_of t) (mark_kind m.mark)) ms e in
    by x (mark_kind x.one.mark) refl x.passes
  where
    by : (x : Found (λ (m : Member). is_marked (kind_word_of t) (mark_kind m.mark)) ms) (o : Option KindWord) → mark_kind x.one.mark ≡ o → is_marked (kind_word_of t) o ≡ true → UnionFor UF.Kinded ms t
    by x None is h = absurd cc
    by x (Some k) is h = record {
      member = x.place;
      part = t;
      there = ap (option_and_then (member_form UF.Kinded t)) x.there
          ∙ ap (option_and_then (λ (l : KindWord). cond (same_kind l (kind_word_of t)) (Some t) None)) is ∙ ap (λ b. cond b (Some t) None) h;
    }

record Begun (p s : List ℕ) : Type 0 where
  rest : List ℕ
  is : p ++ rest ≡ s

begun : (p s : List ℕ) → begins p s ≡ true → Begun p s
begun [] s e = record { rest = s; is = refl }
begun (c ∷ p) [] e = absurd cc
begun (c ∷ p) (d ∷ s) e =
    let x = both (nat_eq c d) (begins p s) e in
    let rest = begun p s x.1 in
    let first : c ≡ d = eqb-true c d x.0 in
    record { rest = rest.rest; is = λ i. first i ∷ rest.is i }
  where
    both : (a b : Bool) → (a && b) ≡ true → (a ≡ true) × (b ≡ true)
    both true b h = (refl, h)
    both false b h = absurd cc

prefix_for : (ms : List Member) (s : List ℕ) → has_prefix ms s ≡ true → UnionFor UF.StringPrefix ms (T.text s)
prefix_for ms s e =
    let x = found (λ m. where_some (λ p. begins p s) (mark_text m.mark)) ms e in
    let y = passed (λ p. begins p s) (mark_text x.one.mark) x.passes in
    let z = begun y.one s y.passes in
    record {
      member = x.place;
      part = T.text z.rest;
      there = ap (option_and_then (member_form UF.StringPrefix (T.text z.rest))) x.there
          ∙ ap (option_and_then (marked_form UF.StringPrefix (T.text z.rest))) y.there ∙ ap (λ r. Some (T.text r)) z.is;
    }

bytes_for : (ms : List Member) (s : List ℕ) → has_bytes_prefix ms s ≡ true → UnionFor UF.BytesPrefix ms (T.bytes s)
bytes_for ms s e =
    let x = found (λ m. where_some (λ p. begins p s) (option_and_then bytes_of_hex (mark_text m.mark))) ms e in
    let y = passed (λ p. begins p s) (option_and_then bytes_of_hex (mark_text x.one.mark)) x.passes in
    let w = then_from bytes_of_hex (mark_text x.one.mark) y.one y.there in
    let z = begun y.one s y.passes in
    record {
      member = x.place;
      part = T.bytes z.rest;
      there = ap (option_and_then (member_form UF.BytesPrefix (T.bytes z.rest))) x.there
          ∙ ap (option_and_then (marked_form UF.BytesPrefix (T.bytes z.rest))) w.there
          ∙ ap (λ o. option_and_then (λ front. option_map (λ r. T.bytes (front ++ r)) (Some z.rest)) o) w.made ∙ ap (λ r. Some (T.bytes r)) z.is;
    }

keyed_for : (ms : List Member) (es : T.Members) → UnionClean UF.Keyed ms (T.map es) → UnionFor UF.Keyed ms (T.map es)
keyed_for ms T.no_members c = absurd (never c.count)
keyed_for ms (T.member k d T.no_members) c =
    let h = or_parts (not (is_discriminant ms k)) false c.member in
    let x = marked_by ms k (not_false (is_discriminant ms k) h.0) in
    record {
      member = x.place;
      part = d;
      there = ap (option_and_then (member_form UF.Keyed d)) x.there ∙ ap (option_and_then (marked_form UF.Keyed d)) x.text;
    }
keyed_for ms (T.member k d (T.member l e es)) c =
    absurd (omega (arith, eqb-true (length (T.members_list (T.member k d (T.member l e es)))) 1 (not_false (nat_eq (length (T.members_list (T.member k d (T.member l e es)))) 1) c.count)))

-- a value under a key that is there
record At (k : List ℕ) (es : List (List ℕ × Data)) : Type 0 where
  value : Data
  there : value_at k es ≡ Some value

value_there : (o : Option Data) → is_none o ≡ false → (d : Data) × (o ≡ Some d)
value_there None e = absurd (never e)
value_there (Some d) e = (d, refl)

-- the text of the member under it
record Told (ms : List Member) (key : List ℕ) (es : List (List ℕ × Data)) : Type 0 where
  text : List ℕ
  there : value_at key es ≡ Some (T.text text)
  marked : Marked ms text

told : (ms : List Member) (key : List ℕ) (es : List (List ℕ × Data)) → is_none (value_at key es) ≡ false → where_some (is_no_member ms) (value_at key es) ≡ false → Told ms key es
told ms key es present member =
    let x = value_there (value_at key es) present in
    let no : is_no_member ms x.0 ≡ false = ap (where_some (is_no_member ms)) (sym x.1) ∙ member in
    let y = passed (is_discriminant ms) (text_in x.0) (not_false (where_some (is_discriminant ms) (text_in x.0)) no) in
    record { text = y.one; there = x.1 ∙ ap Some (only_text_data x.0 y.one y.there); marked = marked_by ms y.one y.passes }

inline_for : (key : List ℕ) (ms : List Member) (es : T.Members) → Rises (T.members_list es) → UnionClean (UF.Inline key) ms (T.map es) → UnionFor (UF.Inline key) ms (T.map es)
inline_for key ms es up c =
    let xs = T.members_list es in
    let x = told ms key xs c.missing c.member in
    let ys = without key xs in
    let gone : value_at key ys ≡ None = value_without key key xs up ∙ ap (λ b. cond b None (value_at key xs)) (same_text_self key) in
    let whole : put key (T.text x.text) ys ≡ xs
    = rising_same (put key (T.text x.text) ys) xs (rises_put key (T.text x.text) ys (rises_without key xs up)) up
    (λ q. value_put q key (T.text x.text) ys ∙ ap (cond (same_text q key) (Some (T.text x.text))) (value_without q key xs up) ∙ by q x.text x.there (same_text q key) refl) in
    record {
      member = x.marked.place;
      part = map_data ys;
      there = ap (option_and_then (member_form (UF.Inline key) (map_data ys))) x.marked.there
          ∙ ap (option_and_then (marked_form (UF.Inline key) (map_data ys))) x.marked.text
          ∙ ap (inlined key x.text) (members_list-members_of ys)
          ∙ ap (λ o. cond (is_none o) (Some (map_data (put key (T.text x.text) ys))) None) gone
          ∙ ap (λ zs. Some (map_data zs)) whole ∙ ap (λ zs. Some (T.map zs)) (members_of-members_list es);
    }
  where
    by : (q s : List ℕ) → value_at key (T.members_list es) ≡ Some (T.text s) → (b : Bool) → same_text q key ≡ b
        → cond b (Some (T.text s)) (cond b None (value_at q (T.members_list es))) ≡ value_at q (T.members_list es)
    by q s there true is = sym there ∙ ap (λ k. value_at k (T.members_list es)) (sym (text_same q key (sym is)))
    by q s there false is = refl

-- a key that is found is one of the two
one_of_two : (key content q : List ℕ) (es : List (List ℕ × Data)) → list_any (λ (e : List ℕ × Data). not (same_text key e.0 || same_text content e.0)) es ≡ false
    → is_among q (names es) ≡ true → (same_text key q || same_text content q) ≡ true
one_of_two key content q [] odd k = absurd cc
one_of_two key content q (e ∷ es) odd k =
    let x = or_parts (not (same_text key e.0 || same_text content e.0)) (list_any (λ (a : List ℕ × Data). not (same_text key a.0 || same_text content a.0)) es) odd in
    by (same_text q e.0) refl (not_false (same_text key e.0 || same_text content e.0) x.0)
    (λ is. one_of_two key content q es x.1 (or_rest (same_text q e.0) (is_among q (names es)) k is))
  where
    by : (b : Bool) → same_text q e.0 ≡ b → (same_text key e.0 || same_text content e.0) ≡ true
        → (same_text q e.0 ≡ false → (same_text key q || same_text content q) ≡ true) → (same_text key q || same_text content q) ≡ true
    by true is h more = ap (λ r. same_text key r || same_text content r) (text_same q e.0 (sym is)) ∙ h
    by false is h more = more is

envelope_for : (key content : List ℕ) (ms : List Member) (es : T.Members) → Rises (T.members_list es) → UnionClean (UF.Envelope key content) ms (T.map es) → UnionFor (UF.Envelope key content) ms (T.map es)
envelope_for key content ms es up c =
    let xs = T.members_list es in
    let m = or_parts (is_none (value_at key xs)) (is_none (value_at content xs)) c.missing in
    let x = told ms key xs m.0 c.member in
    let y = value_there (value_at content xs) m.1 in
    let ys = put key (T.text x.text) ((content, y.0) ∷ []) in
    let whole : ys ≡ xs
    = rising_same ys xs (rises_put key (T.text x.text) ((content, y.0) ∷ []) (tt, tt)) up
    (λ q. value_put q key (T.text x.text) ((content, y.0) ∷ []) ∙ by q x.text y.0 x.there y.1 (same_text q key) (same_text q content) refl refl (value_at q xs) refl) in
    record {
      member = x.marked.place;
      part = y.0;
      there = ap (option_and_then (member_form (UF.Envelope key content) y.0)) x.marked.there
          ∙ ap (option_and_then (marked_form (UF.Envelope key content) y.0)) x.marked.text
          ∙ ap (λ zs. Some (map_data zs)) whole ∙ ap (λ zs. Some (T.map zs)) (members_of-members_list es);
    }
  where
    flip : (a b : List ℕ) → same_text a b ≡ false → same_text b a ≡ false
    flip a b e = go (same_text b a) refl where
      go : (z : Bool) → same_text b a ≡ z → same_text b a ≡ false
      go true is = absurd (other_text a b (sym e) (sym (text_same b a (sym is))))
      go false is = is

    by : (q s : List ℕ) (d : Data) → value_at key (T.members_list es) ≡ Some (T.text s) → value_at content (T.members_list es) ≡ Some d
        → (a b : Bool) → same_text q key ≡ a → same_text q content ≡ b → (o : Option Data) → value_at q (T.members_list es) ≡ o
        → cond a (Some (T.text s)) (cond b (Some d) None) ≡ o
    by q s d there inside true b is also o h = sym there ∙ ap (λ k. value_at k (T.members_list es)) (sym (text_same q key (sym is))) ∙ h
    by q s d there inside false true is also o h = sym inside ∙ ap (λ k. value_at k (T.members_list es)) (sym (text_same q content (sym also))) ∙ h
    by q s d there inside false false is also None h = refl
    by q s d there inside false false is also (Some v) h =
        let two = one_of_two key content q (T.members_list es) c.name (among_value q (T.members_list es) ∙ ap is_some h) in
        absurd (never (sym two ∙ or_from (same_text key q) (same_text content q) (flip q key is) (flip q content also)))

pub union_for : (form : UnionForm) (ms : List Member) (t : Data) → KeysRise t → union_has form ms (kind_word_of t) ≡ true → UnionClean form ms t → UnionFor form ms t
union_for UF.Keyed ms (T.map es) up k c = keyed_for ms es c
union_for UF.Keyed ms t up k c = absurd cc
union_for UF.Kinded ms t up k c = kinded_for ms t k
union_for UF.StringPrefix ms (T.text s) up k c = prefix_for ms s (not_false (has_prefix ms s) c.prefix)
union_for UF.StringPrefix ms t up k c = absurd cc
union_for UF.BytesPrefix ms (T.bytes s) up k c = bytes_for ms s (not_false (has_bytes_prefix ms s) c.prefix)
union_for UF.BytesPrefix ms t up k c = absurd cc
union_for (UF.Envelope key content) ms (T.map es) up k c = envelope_for key content ms es up c
union_for (UF.Envelope key content) ms t up k c = absurd cc
union_for (UF.Inline key) ms (T.map es) up k c = inline_for key ms es up c
union_for (UF.Inline key) ms t up k c = absurd cc
