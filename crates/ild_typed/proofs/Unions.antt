-- The data of a union tell the member and its data.
use Rattle.std.proofs.Common.{◌≡◌, ℕ, List, [], ◌∷◌, ◌++◌, Bool, true, false, cond, Option, Some, None, option_map, refl, sym, ◌∙◌, ap, inl, inr}
use Rattle.std.specs.Prelude.{◌⊎◌, nat_eq, slice_get, option_and_then, is_none, ◌&&◌}
use Rattle.std.specs.Cmp.Lexicographic.{same_text as text_same, other_text}
use Rattle.std.specs.Ordering.{match_ordering}
use Rattle.std.specs.declared.cmp.Ordering.{Ordering}
use Rattle.std.specs.declared.cmp.Ordering.TheVariants.{Less, Equal, Greater}
use Rattle.std.proofs.lemmas.Option.{same_Some, none-some}
use Rattle.std.proofs.lemmas.Bool.{eqb-true, eq-eqb}
use Rattle.ild_data.proofs.Options.{none_is}
use Rattle.ild_data.specs.Data as T
use Rattle.ild_data.specs.Data.{Data}
use Rattle.ild_data.specs.Key.{key_cmp, same_text, put, value_at, without}
use Rattle.ild_data.proofs.Rising.{key_exact}
use Rattle.ild_schema.specs.declared.def.UnionForm.{UnionForm}
use Rattle.ild_schema.specs.declared.def.UnionForm.TheVariants as UF
use Rattle.ild_schema.specs.declared.def.Member.{Member}
use Rattle.ild_schema.specs.Prefixes.{begins}
use Rattle.ild_typed.specs.Strings.{text_in, bytes_in, members_in, map_data}
use Rattle.ild_typed.specs.Kinds.{kind_word_of}
use Rattle.ild_schema.specs.DataKinds.{kind_number, same_kind}
use Rattle.ild_schema.specs.Marks.{mark_text, mark_kind}
use Rattle.ild_data.specs.Hex.{bytes_of_hex}
use Rattle.ild_typed.specs.Composed.{inlined, marked_form, member_form, union_form}
use Rattle.ild_schema.specs.Clear.{SameText, Clash, KeysApart, ClearUnion}
use Rattle.ild_typed.proofs.Basics.{then_from, map_from, true_from, behind_front}
use Rattle.ild_typed.proofs.Entries.{map_tells, only_text_data, only_bytes_data, value_put, value_first, same_text_self}

-- two members with one datum clash, and where they are one, so are their data
pub record Meet (form : UnionForm) (m n : Member) (d e : Data) : Type 0 where
  pub clash : Clash form m n ⊎ Clash form n m
  pub same : m ≡ n → d ≡ e

-- ---- prefixes

-- of two fronts of a text one begins with the other
fronts_begin : (p q x y : List ℕ) → p ++ x ≡ q ++ y → (begins p q ≡ true) ⊎ (begins q p ≡ true)
fronts_begin [] q x y e = inl refl
fronts_begin (a ∷ p) [] x y e = inr refl
fronts_begin (a ∷ p) (b ∷ q) x y e = by (fronts_begin p q x y (ap tail_of e)) where
  head_of : List ℕ → ℕ
  head_of [] = 0
  head_of (c ∷ cs) = c

  tail_of : List ℕ → List ℕ
  tail_of [] = []
  tail_of (c ∷ cs) = cs

  first : nat_eq a b ≡ true
  first = eq-eqb a b (ap head_of e)

  second : nat_eq b a ≡ true
  second = eq-eqb b a (sym (ap head_of e))

  by : (begins p q ≡ true) ⊎ (begins q p ≡ true) → ((nat_eq a b && begins p q) ≡ true) ⊎ ((nat_eq b a && begins q p) ≡ true)
  by (inl h) = inl (ap (λ t. t && begins p q) first ∙ h)
  by (inr h) = inr (ap (λ t. t && begins q p) second ∙ h)

-- what a text is told by both members
same_mark : {A : Type 0} (read : Member → Option A) (m n : Member) (a b : A) → read m ≡ Some a → read n ≡ Some b → m ≡ n → a ≡ b
same_mark read m n a b h k same = same_Some a b (sym h ∙ ap read same ∙ k)

abbrev text_inside : Data → List ℕ
text_inside (T.text s) = s
text_inside d = []

abbrev bytes_inside : Data → List ℕ
bytes_inside (T.bytes s) = s
bytes_inside d = []

abbrev read_text : Member → Option (List ℕ)
read_text m = mark_text m.mark

abbrev read_bytes : Member → Option (List ℕ)
read_bytes m = option_and_then bytes_of_hex (mark_text m.mark)

prefix_meet : (m n : Member) (d e : Data) (p q : List ℕ) (t : Data) → read_text m ≡ Some p → read_text n ≡ Some q
    → marked_form UF.StringPrefix d p ≡ Some t → marked_form UF.StringPrefix e q ≡ Some t → Meet UF.StringPrefix m n d e
prefix_meet m n d e p q t mp nq h k =
    let x = map_from (λ s. T.text (p ++ s)) (text_in d) t h in
    let y = map_from (λ s. T.text (q ++ s)) (text_in e) t k in
    let whole : p ++ x.item ≡ q ++ y.item = ap text_inside (same_Some (T.text (p ++ x.item)) t x.made ∙ sym (same_Some (T.text (q ++ y.item)) t y.made)) in
    record {
      clash = by (fronts_begin p q x.item y.item whole);
      same = λ one.
          let front : p ≡ q = same_mark read_text m n p q mp nq one in
          let rest : x.item ≡ y.item = behind_front q x.item y.item (ap (λ r. r ++ x.item) (sym front) ∙ whole) in
          only_text_data d x.item x.there ∙ ap T.text rest ∙ sym (only_text_data e y.item y.there);
    }
  where
    by : (begins p q ≡ true) ⊎ (begins q p ≡ true) → Clash UF.StringPrefix m n ⊎ Clash UF.StringPrefix n m
    by (inl b) = inl (p, q, mp, nq, b)
    by (inr b) = inr (q, p, nq, mp, b)

bytes_meet : (m n : Member) (d e : Data) (p q : List ℕ) (t : Data) → read_bytes m ≡ Some p → read_bytes n ≡ Some q
    → option_map (λ s. T.bytes (p ++ s)) (bytes_in d) ≡ Some t → option_map (λ s. T.bytes (q ++ s)) (bytes_in e) ≡ Some t → Meet UF.BytesPrefix m n d e
bytes_meet m n d e p q t mp nq h k =
    let x = map_from (λ s. T.bytes (p ++ s)) (bytes_in d) t h in
    let y = map_from (λ s. T.bytes (q ++ s)) (bytes_in e) t k in
    let whole : p ++ x.item ≡ q ++ y.item = ap bytes_inside (same_Some (T.bytes (p ++ x.item)) t x.made ∙ sym (same_Some (T.bytes (q ++ y.item)) t y.made)) in
    record {
      clash = by (fronts_begin p q x.item y.item whole);
      same = λ one.
          let front : p ≡ q = same_mark read_bytes m n p q mp nq one in
          let rest : x.item ≡ y.item = behind_front q x.item y.item (ap (λ r. r ++ x.item) (sym front) ∙ whole) in
          only_bytes_data d x.item x.there ∙ ap T.bytes rest ∙ sym (only_bytes_data e y.item y.there);
    }
  where
    by : (begins p q ≡ true) ⊎ (begins q p ≡ true) → Clash UF.BytesPrefix m n ⊎ Clash UF.BytesPrefix n m
    by (inl b) = inl (p, q, mp, nq, b)
    by (inr b) = inr (q, p, nq, mp, b)

-- ---- maps of one or two entries

pub text_same_data : (a b : List ℕ) → T.text a ≡ T.text b → a ≡ b
text_same_data a b e = ap text_inside e

same_text_clash : (m n : Member) (a b : List ℕ) → read_text m ≡ Some a → read_text n ≡ Some b → a ≡ b → SameText m n
same_text_clash m n a b ma nb same = (a, ma, nb ∙ ap Some (sym same))

abbrev key_first : List (List ℕ × Data) → List ℕ
key_first [] = []
key_first (p ∷ ps) = p.0

abbrev value_of_first : Data → List (List ℕ × Data) → Data
value_of_first z [] = z
value_of_first z (p ∷ ps) = p.1

keyed_meet : (m n : Member) (d e : Data) (a b : List ℕ) (t : Data) → read_text m ≡ Some a → read_text n ≡ Some b
    → marked_form UF.Keyed d a ≡ Some t → marked_form UF.Keyed e b ≡ Some t → Meet UF.Keyed m n d e
keyed_meet m n d e a b t ma nb h k =
    let whole = map_tells ((a, d) ∷ []) ((b, e) ∷ []) (same_Some (map_data ((a, d) ∷ [])) (map_data ((b, e) ∷ [])) (h ∙ sym k)) in
    record { clash = inl (same_text_clash m n a b ma nb (ap key_first whole)); same = λ one. ap (value_of_first d) whole }

-- a look-up at the discriminant's key
disc_same : (key : List ℕ) (a b : List ℕ) (ps qs : List (List ℕ × Data)) → put key (T.text a) ps ≡ put key (T.text b) qs → a ≡ b
disc_same key a b ps qs e =
    text_same_data a b (same_Some (T.text a) (T.text b)
    (sym (value_first key (T.text a) ps) ∙ sym (value_put key key (T.text a) ps) ∙ ap (value_at key) e ∙ value_put key key (T.text b) qs ∙ value_first key (T.text b) qs))

other_key : (q k : List ℕ) (v : Data) (ps : List (List ℕ × Data)) (b : Bool) → (q ≡ k → ⊥) → b ≡ same_text q k → cond b (Some v) (value_at q ps) ≡ value_at q ps
other_key q k v ps true apart is = absurd (apart (text_same q k is))
other_key q k v ps false apart is = refl

content_at : (key content : List ℕ) (a : List ℕ) (d : Data) → (content ≡ key → ⊥) → value_at content (put key (T.text a) ((content, d) ∷ [])) ≡ Some d
content_at key content a d apart =
    value_put content key (T.text a) ((content, d) ∷ [])
    ∙ other_key content key (T.text a) ((content, d) ∷ []) (same_text content key) apart refl
    ∙ value_first content d []

envelope_meet : (key content : List ℕ) → (key ≡ content → ⊥) → (m n : Member) (d e : Data) (a b : List ℕ) (t : Data) → read_text m ≡ Some a → read_text n ≡ Some b
    → marked_form (UF.Envelope key content) d a ≡ Some t → marked_form (UF.Envelope key content) e b ≡ Some t → Meet (UF.Envelope key content) m n d e
envelope_meet key content apart m n d e a b t ma nb h k =
    let ps = put key (T.text a) ((content, d) ∷ []) in
    let qs = put key (T.text b) ((content, e) ∷ []) in
    let whole : ps ≡ qs = map_tells ps qs (same_Some (map_data ps) (map_data qs) (h ∙ sym k)) in
    let away : content ≡ key → ⊥ = λ same. apart (sym same) in
    record {
      clash = inl (same_text_clash m n a b ma nb (disc_same key a b ((content, d) ∷ []) ((content, e) ∷ []) whole));
      same = λ one. same_Some d e (sym (content_at key content a d away) ∙ ap (value_at content) whole ∙ content_at key content b e away);
    }

-- ---- an entry added to a map

without_step : (k : List ℕ) (v : Data) (m : List ℕ × Data) (ms : List (List ℕ × Data)) (o : Ordering) (b : Bool) → key_cmp k m.0 ≡ o → b ≡ same_text k m.0
    → cond b (Some m.1) (value_at k ms) ≡ None → without k (put k v ms) ≡ ms
    → without k (match_ordering o ((k, v) ∷ m ∷ ms) ((k, v) ∷ ms) (m ∷ put k v ms)) ≡ m ∷ ms
without_step k v m ms o true is same none rest = absurd (none-some m.1 (sym none))
without_step k v m ms Less false is same none rest = ap (λ b. cond b (m ∷ ms) ((k, v) ∷ without k (m ∷ ms))) (same_text_self k)
without_step k v m ms Equal false is same none rest = absurd (other_text k m.0 same (key_exact k m.0 is))
without_step k v m ms Greater false is same none rest = ap (λ b. cond b (put k v ms) (m ∷ without k (put k v ms))) (sym same) ∙ ap (λ xs. m ∷ xs) rest

none_later : {V : Type 0} (b : Bool) (v : V) (o : Option V) → cond b (Some v) o ≡ None → o ≡ None
none_later true v o e = absurd (none-some v (sym e))
none_later false v o e = e

-- an entry that is put and taken away again
pub without_put : (k : List ℕ) (v : Data) (ms : List (List ℕ × Data)) → value_at k ms ≡ None → without k (put k v ms) ≡ ms
without_put k v [] none = ap (λ b. cond b [] ((k, v) ∷ [])) (same_text_self k)
without_put k v (m ∷ ms) none =
    without_step k v m ms (key_cmp k m.0) (same_text k m.0) refl refl none
    (without_put k v ms (none_later (same_text k m.0) m.1 (value_at k ms) none))

members_again : (ms : T.Members) → T.members_of (T.members_list ms) ≡ ms
members_again T.no_members = refl
members_again (T.member k d ms) = ap (T.member k d) (members_again ms)

pub only_map_data : (d : Data) (ms : List (List ℕ × Data)) → members_in d ≡ Some ms → d ≡ map_data ms
only_map_data (T.map ns) ms e = ap T.map (sym (members_again ns) ∙ ap T.members_of (same_Some (T.members_list ns) ms e))
only_map_data d ms e = absurd (none-some ms e)

inline_meet : (key : List ℕ) (m n : Member) (d e : Data) (a b : List ℕ) (t : Data) → read_text m ≡ Some a → read_text n ≡ Some b
    → marked_form (UF.Inline key) d a ≡ Some t → marked_form (UF.Inline key) e b ≡ Some t → Meet (UF.Inline key) m n d e
inline_meet key m n d e a b t ma nb h k =
    let x = then_from (inlined key a) (members_in d) t h in
    let y = then_from (inlined key b) (members_in e) t k in
    let x_in = true_from (is_none (value_at key x.item)) (map_data (put key (T.text a) x.item)) t x.made in
    let y_in = true_from (is_none (value_at key y.item)) (map_data (put key (T.text b) y.item)) t y.made in
    let whole = map_tells (put key (T.text a) x.item) (put key (T.text b) y.item) (x_in.1 ∙ sym y_in.1) in
    let rest : x.item ≡ y.item
    = sym (without_put key (T.text a) x.item (none_is (value_at key x.item) x_in.0)) ∙ ap (without key) whole
    ∙ without_put key (T.text b) y.item (none_is (value_at key y.item) y_in.0) in
    record {
      clash = inl (same_text_clash m n a b ma nb (disc_same key a b x.item y.item whole));
      same = λ one. only_map_data d x.item x.there ∙ ap map_data rest ∙ sym (only_map_data e y.item y.there);
    }

-- ---- kinds

kind_meet : (m n : Member) (d e : Data) (t : Data) → member_form UF.Kinded d m ≡ Some t → member_form UF.Kinded e n ≡ Some t → Meet UF.Kinded m n d e
kind_meet m n d e t h k =
    let x = then_from (λ w. cond (same_kind w (kind_word_of d)) (Some d) None) (mark_kind m.mark) t h in
    let y = then_from (λ w. cond (same_kind w (kind_word_of e)) (Some e) None) (mark_kind n.mark) t k in
    let x_in = true_from (same_kind x.item (kind_word_of d)) d t x.made in
    let y_in = true_from (same_kind y.item (kind_word_of e)) e t y.made in
    let same : d ≡ e = x_in.1 ∙ sym y_in.1 in
    let first : kind_number x.item ≡ kind_number (kind_word_of d) = eqb-true (kind_number x.item) (kind_number (kind_word_of d)) x_in.0 in
    let second : kind_number y.item ≡ kind_number (kind_word_of e) = eqb-true (kind_number y.item) (kind_number (kind_word_of e)) y_in.0 in
    let kinds : kind_number x.item ≡ kind_number y.item = first ∙ ap (λ c. kind_number (kind_word_of c)) same ∙ sym second in
    record { clash = inl (x.item, y.item, x.there, y.there, eq-eqb (kind_number x.item) (kind_number y.item) kinds); same = λ one. same }

-- ---- any union

pub members_meet : (form : UnionForm) → KeysApart form → (m n : Member) (d e : Data) (t : Data) → member_form form d m ≡ Some t → member_form form e n ≡ Some t → Meet form m n d e
members_meet UF.Keyed keys m n d e t h k =
    let x = then_from (marked_form UF.Keyed d) (mark_text m.mark) t h in
    let y = then_from (marked_form UF.Keyed e) (mark_text n.mark) t k in
    keyed_meet m n d e x.item y.item t x.there y.there x.made y.made
members_meet UF.Kinded keys m n d e t h k = kind_meet m n d e t h k
members_meet UF.StringPrefix keys m n d e t h k =
    let x = then_from (marked_form UF.StringPrefix d) (mark_text m.mark) t h in
    let y = then_from (marked_form UF.StringPrefix e) (mark_text n.mark) t k in
    prefix_meet m n d e x.item y.item t x.there y.there x.made y.made
members_meet UF.BytesPrefix keys m n d e t h k =
    let x = then_from (marked_form UF.BytesPrefix d) (mark_text m.mark) t h in
    let y = then_from (marked_form UF.BytesPrefix e) (mark_text n.mark) t k in
    let u = then_from (λ front. option_map (λ s. T.bytes (front ++ s)) (bytes_in d)) (bytes_of_hex x.item) t x.made in
    let v = then_from (λ front. option_map (λ s. T.bytes (front ++ s)) (bytes_in e)) (bytes_of_hex y.item) t y.made in
    bytes_meet m n d e u.item v.item t (ap (option_and_then bytes_of_hex) x.there ∙ u.there) (ap (option_and_then bytes_of_hex) y.there ∙ v.there) u.made v.made
members_meet (UF.Envelope key content) keys m n d e t h k =
    let x = then_from (marked_form (UF.Envelope key content) d) (mark_text m.mark) t h in
    let y = then_from (marked_form (UF.Envelope key content) e) (mark_text n.mark) t k in
    envelope_meet key content keys m n d e x.item y.item t x.there y.there x.made y.made
members_meet (UF.Inline key) keys m n d e t h k =
    let x = then_from (marked_form (UF.Inline key) d) (mark_text m.mark) t h in
    let y = then_from (marked_form (UF.Inline key) e) (mark_text n.mark) t k in
    inline_meet key m n d e x.item y.item t x.there y.there x.made y.made

pub union_tells : (form : UnionForm) (ms : List Member) → ClearUnion form ms → (p q : ℕ × Data) (t : Data) → union_form form ms p ≡ Some t → union_form form ms q ≡ Some t → p ≡ q
union_tells form ms clear p q t h k =
    let x = then_from (member_form form p.1) (slice_get ms p.0) t h in
    let y = then_from (member_form form q.1) (slice_get ms q.0) t k in
    let both = members_meet form clear.keys x.item y.item p.1 q.1 t x.made y.made in
    let number = by x.item y.item x.there y.there both.clash in
    let member : x.item ≡ y.item = same_Some x.item y.item (sym x.there ∙ ap (slice_get ms) number ∙ y.there) in
    λ i. (number i, both.same member i)
  where
    by : (m n : Member) → slice_get ms p.0 ≡ Some m → slice_get ms q.0 ≡ Some n → Clash form m n ⊎ Clash form n m → p.0 ≡ q.0
    by m n hm hn (inl c) = clear.apart p.0 q.0 m n hm hn c
    by m n hm hn (inr c) = sym (clear.apart q.0 p.0 n m hn hm c)
