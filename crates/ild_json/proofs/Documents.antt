-- A JSON document in which nothing is at fault, part by part, and the data that it means.
use Rattle.std.proofs.Common.{◌≡◌, ℕ, zero, suc, ◌<◌, ◌≤◌, ℤ, pos, negsuc, get_or, List, [], ◌∷◌, ◌++◌}
use Rattle.std.proofs.Common.{length, map, Bool, true, false, if◌then◌else◌, Option, Some, None, option_map, option_and_then, Result, Ok, Err, nat_cmp, IsPermutation, refl, sym, ap, ◌∙◌, subst, arith, rules, Bor, Vec}
use Rattle.std.proofs.lemmas.List.{map-append}
use Rattle.std.proofs.lemmas.List.Elements.{All-from_recursion, recursion_from_All}
use Rattle.std.proofs.lemmas.List.Sorted.{All-permutation, IsPermutation-map, IsPermutation-sym}
use Rattle.std.specs.Cmp.Lexicographic.{slice_cmp}
use Rattle.std.specs.List.{AllByRecursion}
use Rattle.std.specs.declared.alloc.Global.{Global}
use Rattle.json.specs.Tree as tree
use Rattle.json.specs.Find.{as_str}
use Rattle.json.specs.declared.value.Value as V
use Rattle.json.specs.declared.value.Value.{Value, the_lemmas}
use Rattle.std.proofs.lemmas.Option.{same_Some, none-some}
use Rattle.std.specs.Prelude.{IfOk, IfSome, OnOk, IsUtf8}
use Rattle.json.specs.Token.{Token}
use Rattle.json.specs.Lex.{tokens}
use Rattle.ild_json.proofs.Texts.{json_read-some}
use Rattle.std.specs.Result.{result_ok}
use Rattle.ild_data.proofs.AllOf.{all_push}
use Rattle.ild_data.specs.Seen.{data_of, pair_of}
use Rattle.ild_data.specs.declared.tree.Tree.{Tree}
use Rattle.json.specs.Json as doc
use Rattle.json.specs.Value.{value_view, items_view, members_view}
use Rattle.serde_json.specs.Data as json
use Rattle.serde_json.specs.Read.{read, number_of, of_json, of_items, of_members}
use Rattle.serde_json.specs.Find.{of_integer, as_str as json_str}
use Rattle.ild_data.specs.Data.{Data, null, boolean, integer, text, list, map as map_of, Items, items_list, Members, no_members, member, members_of, members_list}
use Rattle.ild_data.specs.Key.{same_text, Rises}
use Rattle.ild_data_order.specs.Keys.{under_keys}
use Rattle.ild_data.proofs.Lists.{items_of-items_list, members_of-members_list}
use Rattle.ild_json.specs.Printing.{is_slash_alone}
use Rattle.ild_json.specs.Reading.{and_others, number_read, link_read, bytes_read, bytes_form, data_read, items_read, members_read, object_read, list_or_fault, map_or_fault, put_all, json_read}
use Rattle.ild_json.specs.Slash.{slash, bytes_word, only_member}
use Rattle.ild_json.specs.Sound.{Means, MeansReserved, InKeyOrder, Member, members_seen}
use Rattle.ild_json.specs.declared.error.JsonErr.{JsonErr}
use Rattle.ild_json.proofs.Back.{Held, held_read, held_put, lone, slash_only, word_only}
use Rattle.ild_json.proofs.Bytewise.{put_both}
use Rattle.ild_json.proofs.Order.{put_bytewise, put_all_bytewise}
use Rattle.ild_json.proofs.Slashes.{only_member-one, only_member-others}

-- ---- the forms of a value

view-Null : value_view {A = Global} V.Null ≡ doc.null
view-Null = search (rules, the_lemmas)

view-Bool : (b : Bool) → value_view {A = Global} (V.Bool b) ≡ doc.boolean b
view-Bool b = search (rules, the_lemmas)

view-Number : (s : Bor (List ℕ)) → value_view {A = Global} (V.Number s) ≡ doc.number s.now
view-Number s = search (rules, the_lemmas)

view-String : (s : Bor (List ℕ)) → value_view {A = Global} (V.String s) ≡ doc.string s.now
view-String s = search (rules, the_lemmas)

pub view-Array : (xs : Vec (Value Global) Global) → value_view (V.Array xs) ≡ doc.array (items_view xs.items)
view-Array xs = search (rules, the_lemmas)

pub view-Object : (xs : Vec Member Global) → value_view (V.Object xs) ≡ doc.object (members_view xs.items)
view-Object xs = search (rules, the_lemmas)

-- ---- what a document means, as a function

abbrev value_or : Option json.Data → json.Data
value_or (Some v) = v
value_or None = json.null

abbrev data_or : Result Data JsonErr → Data
data_or (Ok d) = d
data_or (Err e) = null

abbrev doc_value : doc.Json → json.Data
doc_value j = value_or (of_json j)

abbrev pub doc_data : doc.Json → Data
doc_data j = data_or (data_read (doc_value j))

pub record IsSound (j : doc.Json) : Type 0 where
  pub is : of_json j ≡ Some (doc_value j)
  pub read : data_read (doc_value j) ≡ Ok (doc_data j)

pub data_same : (j : doc.Json) (d : Data) → Means j d → doc_data j ≡ d
data_same j d m = ap (λ o. data_or (data_read (value_or o))) m.is ∙ ap data_or m.read

pub sound : (j : doc.Json) (d : Data) → Means j d → IsSound j
sound j d m =
    let same : doc_value j ≡ m.value = ap value_or m.is in
    record { is = m.is ∙ ap Some (sym same); read = ap data_read same ∙ m.read ∙ ap Ok (sym (data_same j d m)) }

-- ---- lists

abbrev IsSoundItem : Value Global → Type 0
IsSoundItem v = IsSound (value_view v)

abbrev item_data : Value Global → Data
item_data v = doc_data (value_view v)

-- these values were read as these items
pub record AreItems (vs : List (Value Global)) (ds : Items) : Type 0 where
  pub sound : AllByRecursion IsSoundItem vs
  pub same : map item_data vs ≡ items_list ds

pub items_more : (vs : List (Value Global)) (v : Value Global) (ds es : Items) (d : Data) → AreItems vs ds → Means (value_view v) d → items_list es ≡ items_list ds ++ d ∷ [] → AreItems (vs ++ v ∷ []) es
items_more vs v ds es d are means pushed = record {
  sound = all_push IsSoundItem vs v are.sound (sound (value_view v) d means);
  same = map-append item_data vs (v ∷ []) ∙ ap (λ xs. xs ++ item_data v ∷ []) are.same ∙ ap (λ e. items_list ds ++ e ∷ []) (data_same (value_view v) d means) ∙ sym pushed;
}

items_sound : (vs : List (Value Global)) → AllByRecursion IsSoundItem vs → (ds : json.Items) × (of_items (items_view vs) ≡ Some ds) × (items_read ds ≡ Ok (map item_data vs))
items_sound [] all = (json.no_items, refl, refl)
items_sound (v ∷ vs) all =
    let rest = items_sound vs all.1 in (
      json.item (doc_value (value_view v)) rest.0,
      ap (option_and_then (λ d. option_map (json.item d) (of_items (items_view vs)))) all.0.is ∙ ap (option_map (json.item (doc_value (value_view v)))) rest.1,
      ap (λ r. and_others r (items_read rest.0)) all.0.read ∙ ap (and_others (Ok (item_data v))) rest.2,
    )

pub list_means : (vs : List (Value Global)) (ds : Items) → AreItems vs ds → Means (doc.array (items_view vs)) (list ds)
list_means vs ds are =
    let parts = items_sound vs are.sound in
    record {
      value = json.array parts.0;
      is = ap (option_map json.array) parts.1;
      read = ap list_or_fault (parts.2 ∙ ap Ok are.same) ∙ ap (λ es. Ok (list es)) (items_of-items_list ds);
    }

pub item_depth : (vs : List (Value Global)) (i : ℕ) (v : Value Global) → i < length vs → v ≡ get_or vs i v → tree.depth (value_view v) ≤ tree.items_depth (items_view vs)
item_depth [] i v lt is = absurd (omega (arith, lt))
item_depth (w ∷ vs) zero v lt is = let same : tree.depth (value_view v) ≡ tree.depth (value_view w) = ap (λ u. tree.depth (value_view u)) is in omega (arith, same)
item_depth (w ∷ vs) (suc i) v lt is = let rest = item_depth vs i v (omega (arith, lt)) is in omega (arith, rest)

-- ---- objects

abbrev Entry : Type 0
Entry = List ℕ × doc.Json

abbrev pub IsSoundEntry : Entry → Type 0
IsSoundEntry e = IsSound e.1

abbrev pub entry_data : Entry → List ℕ × Data
entry_data e = (e.0, doc_data e.1)

abbrev doc_members : List Entry → doc.Members
doc_members [] = doc.no_members
doc_members (e ∷ es) = doc.member e.0 e.1 (doc_members es)

members_are : (ms : List Member) → members_view ms ≡ doc_members (members_seen ms)
members_are [] = refl
members_are (m ∷ ms) = ap (doc.member m.0.now (value_view m.1)) (members_are ms)

abbrev seen : Member → Entry
seen m = (m.0.now, value_view m.1)

object_sound : (es : List Entry) (found : json.Members) (founds : List (List ℕ × Data)) → AllByRecursion IsSoundEntry es → Held found founds
    → (ds : json.Members) × (of_members (doc_members es) found ≡ Some ds) × Held ds (put_all_bytewise (map entry_data es) founds)
object_sound [] found founds all held = (found, refl, held)
object_sound (e ∷ es) found founds all held =
    let rest = object_sound es (json.put e.0 (doc_value e.1) found) (put_bytewise e.0 (doc_data e.1) founds) all.1 (held_put e.0 (doc_value e.1) (doc_data e.1) found founds all.0.read held) in
    (rest.0, ap (option_and_then (λ d. of_members (doc_members es) (json.put e.0 d found))) all.0.is ∙ rest.1, rest.2)

abbrev is_alone : List (List ℕ × Data) → Bool
is_alone [] = false
is_alone (m ∷ []) = same_text m.0 slash
is_alone (m ∷ n ∷ ms) = false

alone_list : (ns : Members) → is_slash_alone ns ≡ is_alone (members_list ns)
alone_list no_members = refl
alone_list (member k d no_members) = refl
alone_list (member k d (member l e ns)) = refl

not_only : (ds : json.Members) (xs : List (List ℕ × Data)) → Held ds xs → is_alone (put_all xs []) ≡ false → only_member slash ds ≡ None
not_only json.no_members xs held apart = only_member-others slash json.no_members (λ one. absurd (omega arith))
not_only (json.member k j json.no_members) [] held apart = absurd held
not_only (json.member k j json.no_members) (x ∷ []) held apart =
    only_member-one slash (json.member k j json.no_members) refl ∙ lone (slice_cmp nat_cmp slash k) k j refl (ap (λ s. same_text s slash) held.0 ∙ apart)
not_only (json.member k j json.no_members) (x ∷ y ∷ xs) held apart = absurd held.2
not_only (json.member k j (json.member l e ds)) xs held apart = only_member-others slash (json.member k j (json.member l e ds)) (λ one. absurd (omega (arith, one)))

all_moved : (es fs : List Entry) → IsPermutation es fs → AllByRecursion IsSoundEntry fs → AllByRecursion IsSoundEntry es
all_moved es fs moved all = recursion_from_All IsSoundEntry es (All-permutation IsSoundEntry fs es (IsPermutation-sym es fs moved) (All-from_recursion IsSoundEntry fs all))

same_keys : (e : Entry) (es : List Entry) → Rises (e ∷ es) → Rises (map entry_data (e ∷ es))
same_keys e [] up = (tt, tt)
same_keys e (f ∷ es) up = (up.0, same_keys f es up.1)

rises_data : (es : List Entry) → Rises es → Rises (map entry_data es)
rises_data [] up = tt
rises_data (e ∷ es) up = same_keys e es up

map_means : (es fs : List Entry) (ns : Members) → IsPermutation es fs → Rises fs → AllByRecursion IsSoundEntry fs → map entry_data fs ≡ members_list ns → is_slash_alone ns ≡ false
    → Means (doc.object (doc_members es)) (map_of ns)
map_means es fs ns moved up all same apart =
    let parts = object_sound es json.no_members [] (all_moved es fs moved all) tt in
    let xs = put_all_bytewise (map entry_data es) [] in
    let whole : put_all xs [] ≡ members_list ns = put_both (map entry_data es) (map entry_data fs) (rises_data fs up) (IsPermutation-map entry_data es fs moved) ∙ same in
    record {
      value = json.object parts.0;
      is = ap (option_map json.object) parts.1;
      read = ap (λ o. object_read o (members_read parts.0)) (not_only parts.0 xs parts.2 (ap is_alone whole ∙ sym (alone_list ns) ∙ apart))
          ∙ ap map_or_fault (held_read parts.0 xs parts.2) ∙ ap (λ ms. Ok (map_of (members_of ms))) whole ∙ ap (λ ms. Ok (map_of ms)) (members_of-members_list ns);
    }

pub object_means : (ms ordered : List Member) (ns : Members) → InKeyOrder ms ordered → AllByRecursion IsSoundEntry (members_seen ordered) → map entry_data (members_seen ordered) ≡ members_list ns → is_slash_alone ns ≡ false
    → Means (doc.object (members_view ms)) (map_of ns)
object_means ms ordered ns order all same apart =
    subst (λ (js : doc.Members). Means (doc.object js) (map_of ns)) (sym (members_are ms))
    (map_means (members_seen ms) (members_seen ordered) ns (IsPermutation-map seen ms ordered order.same) order.rises all same apart)

-- these members were read as these entries
pub record AreEntries (ms : List Member) (ps : List (List ℕ × Tree)) : Type 0 where
  pub sound : AllByRecursion IsSoundEntry (members_seen ms)
  pub same : map entry_data (members_seen ms) ≡ map pair_of ps

pub entries_more : (ms : List Member) (m : Member) (old new : List (List ℕ × Tree)) (k : List ℕ) (t : Tree) → AreEntries ms old → k ≡ m.0.now → Means (value_view m.1) (data_of t) → new ≡ old ++ (k, t) ∷ []
    → AreEntries (ms ++ m ∷ []) new
entries_more ms m old new k t are key means pushed =
    let one : Entry = (m.0.now, value_view m.1) in
    let told = data_same (value_view m.1) (data_of t) means in
    record {
      sound = subst (AllByRecursion IsSoundEntry) (sym (map-append seen ms (m ∷ []))) (all_push IsSoundEntry (members_seen ms) one are.sound (sound (value_view m.1) (data_of t) means));
      same = ap (map entry_data) (map-append seen ms (m ∷ [])) ∙ map-append entry_data (members_seen ms) (one ∷ []) ∙ ap (λ es. es ++ entry_data one ∷ []) are.same
          ∙ ap (λ d. map pair_of old ++ (m.0.now, d) ∷ []) told ∙ ap (λ l. map pair_of old ++ (l, data_of t) ∷ []) (sym key) ∙ sym (ap (map pair_of) pushed ∙ map-append pair_of old ((k, t) ∷ []));
    }

pub entries_rise : (ms : List Member) (ps : List (List ℕ × Tree)) → Rises (members_seen ms) → AreEntries ms ps → Rises (map pair_of ps)
entries_rise ms ps up are = subst (λ (es : List (List ℕ × Data)). Rises es) are.same (rises_data (members_seen ms) up)

pub entries_mean : (ms ordered : List Member) (ps : List (List ℕ × Tree)) (ns : Members) → InKeyOrder ms ordered → AreEntries ordered ps → members_list ns ≡ map pair_of ps → is_slash_alone ns ≡ false
    → Means (doc.object (members_view ms)) (map_of ns)
entries_mean ms ordered ps ns order are made apart = object_means ms ordered ns order are.sound (are.same ∙ sym made) apart

pub member_depth : (ms es : List Member) (i : ℕ) (m : Member) → IsPermutation ms es → i < length es → m ≡ get_or es i m → tree.depth (value_view m.1) ≤ tree.members_depth (members_view ms)
member_depth ms es i m moved lt is =
    let P : Member → Type 0 = λ n. tree.depth (value_view n.1) ≤ tree.members_depth (members_view ms) in
    subst P (sym is) (All-permutation P ms es moved (All-from_recursion P ms (each ms (tree.members_depth (members_view ms)) (omega arith))) i m lt)
  where
    each : (ns : List Member) (n : ℕ) → tree.members_depth (members_view ns) ≤ n → AllByRecursion (λ (k : Member). tree.depth (value_view k.1) ≤ n) ns
    each [] n le = tt
    each (k ∷ ns) n le = (omega (arith, le), each ns n (omega (arith, le)))

-- members whose keys rise, with their values seen as documents
members_rise : (ms : List Member) → Rises (under_keys (λ (m : Member). m.0.now) ms) → Rises (members_seen ms)
members_rise [] up = tt
members_rise (m ∷ []) up = (tt, tt)
members_rise (m ∷ n ∷ ms) up = (up.0, members_rise (n ∷ ms) up.1)

pub sorted_members : (ms es : List Member) → IsPermutation ms es → Rises (under_keys (λ (m : Member). m.0.now) es) → InKeyOrder ms es
sorted_members ms es moved up = record { same = moved; rises = members_rise es up }

-- ---- what stands under `/`

pub reserved_means : (js : doc.Members) (v : doc.Json) (d : Data) → js ≡ doc.member slash v doc.no_members → MeansReserved v d → Means (doc.object js) d
reserved_means js v d is m = record {
  value = json.object (json.member slash m.value json.no_members);
  is = ap (λ ms. option_map json.object (of_members ms json.no_members)) is ∙ ap (λ o. option_map json.object (option_and_then (λ e. Some (json.member slash e json.no_members)) o)) m.is;
  read = ap (λ o. object_read o (members_read (json.member slash m.value json.no_members))) (slash_only m.value) ∙ m.read;
}

reserved_text : (j : doc.Json) (s : List ℕ) (d : Data) → j ≡ doc.string s → link_read s ≡ Ok d → MeansReserved j d
reserved_text j s d is read = record { value = json.string s; is = ap of_json is; read = read }

string_of : (j : doc.Json) (s : List ℕ) → as_str j ≡ Some s → j ≡ doc.string s
string_of doc.null s e = absurd (none-some s e)
string_of (doc.boolean b) s e = absurd (none-some s e)
string_of (doc.number n) s e = absurd (none-some s e)
string_of (doc.string t) s e = ap doc.string (same_Some t s e)
string_of (doc.array js) s e = absurd (none-some s e)
string_of (doc.object ms) s e = absurd (none-some s e)

reserved_bytes : (j : doc.Json) (ms : doc.Members) (v : doc.Json) (s : List ℕ) (d : Data) → j ≡ doc.object ms → ms ≡ doc.member bytes_word v doc.no_members → as_str v ≡ Some s → bytes_read s ≡ Ok d → MeansReserved j d
reserved_bytes j ms v s d is one word read = record {
  value = json.object (json.member bytes_word (json.string s) json.no_members);
  is = ap of_json (is ∙ ap doc.object (one ∙ ap (λ w. doc.member bytes_word w doc.no_members) (string_of v s word)));
  read = ap (λ o. bytes_form (option_and_then json_str o)) (word_only (json.string s)) ∙ read;
}

ok_some : {A E : Type 0} (r : Result A E) (o : Option A) (Q R : A → Type 0) → o ≡ result_ok r → ((a : A) → Q a → R a) → IfOk r Q → IfSome o R
ok_some (Ok a) o Q R is f q = rw is (f a q)
ok_some (Err e) o Q R is f q = rw is tt

pub link_some : (r : Result Tree JsonErr) (o : Option Tree) (v : Value Global) (s : Bor (List ℕ)) → o ≡ result_ok r → v ≡ V.String s → IfOk r (λ t. link_read s.now ≡ Ok (data_of t)) → IfSome o (λ t. MeansReserved (value_view v) (data_of t))
link_some r o v s is at read =
    let word : value_view v ≡ doc.string s.now = ap value_view at ∙ view-String s in
    ok_some r o (λ t. link_read s.now ≡ Ok (data_of t)) (λ t. MeansReserved (value_view v) (data_of t)) is (λ t e. reserved_text (value_view v) s.now (data_of t) word e) read

pub bytes_some : (r : Result Tree JsonErr) (o : Option Tree) (v w : Value Global) (ms : Vec Member Global) (s : List ℕ) → o ≡ result_ok r → v ≡ V.Object ms → members_view ms.items ≡ doc.member bytes_word (value_view w) doc.no_members
    → as_str (value_view w) ≡ Some s → IfOk r (λ t. bytes_read s ≡ Ok (data_of t)) → IfSome o (λ t. MeansReserved (value_view v) (data_of t))
bytes_some r o v w ms s is at one word read =
    let whole : value_view v ≡ doc.object (members_view ms.items) = ap value_view at ∙ view-Object ms in
    ok_some r o (λ t. bytes_read s ≡ Ok (data_of t)) (λ t. MeansReserved (value_view v) (data_of t)) is (λ t e. reserved_bytes (value_view v) (members_view ms.items) (value_view w) s (data_of t) whole one word e) read

pub reserved_some : (o : Option Tree) (ms : List Member) (w : Value Global) → members_view ms ≡ doc.member slash (value_view w) doc.no_members → IfSome o (λ t. MeansReserved (value_view w) (data_of t)) → IfSome o (λ t. Means (doc.object (members_view ms)) (data_of t))
reserved_some (Some t) ms w is m = reserved_means (members_view ms) (value_view w) (data_of t) is m
reserved_some None ms w is m = tt

-- ---- values of other forms

pub null_means : (v : Value Global) → v ≡ V.Null → Means (value_view v) null
null_means v at = record { value = json.null; is = ap of_json (ap value_view at ∙ view-Null); read = refl }

pub bool_means : (v : Value Global) (b : Bool) → v ≡ V.Bool b → Means (value_view v) (boolean b)
bool_means v b at = record { value = json.boolean b; is = ap of_json (ap value_view at ∙ view-Bool b); read = refl }

pub text_means : (v : Value Global) (s : Bor (List ℕ)) (t : List ℕ) → v ≡ V.String s → t ≡ s.now → Means (value_view v) (text t)
text_means v s t at same = record { value = json.string s.now; is = ap of_json (ap value_view at ∙ view-String s); read = ap (λ u. Ok (text u)) (sym same) }

integer_read : (n : ℤ) → number_read (of_integer n) ≡ Ok (integer n)
integer_read (pos n) = refl
integer_read (negsuc n) = refl

pub number_means : (v : Value Global) (s : Bor (List ℕ)) (n : ℤ) → v ≡ V.Number s → number_of s.now ≡ Some (of_integer n) → Means (value_view v) (integer n)
number_means v s n at read = record {
  value = json.number (of_integer n);
  is = ap of_json (ap value_view at ∙ view-Number s) ∙ ap (option_map json.number) read;
  read = integer_read n;
}

pub array_means : (v : Value Global) (xs : Vec (Value Global) Global) (d : Data) → v ≡ V.Array xs → Means (doc.array (items_view xs.items)) d → Means (value_view v) d
array_means v xs d at m = subst (λ (j : doc.Json). Means j d) (sym (ap value_view at ∙ view-Array xs)) m

-- what holds where a call went well
pub on_told : {A E : Type 0} {P : Type 0} (r : Result A E) (x : A) → Some x ≡ result_ok r → OnOk r P → P
on_told (Ok a) x is p = p
on_told (Err e) x is p = absurd (none-some x (sym is))

pub ok_told : {A E : Type 0} (r : Result A E) (x : A) (P : A → Type 0) → Some x ≡ result_ok r → IfOk r P → P x
ok_told (Ok a) x P is p = subst P (sym (same_Some x a is)) p
ok_told (Err e) x P is p = absurd (none-some x (sym is))

pub if_told : {X : Type 0} (b : Bool) (x y z : X) → true ≡ b → x ≡ (if b then y else z) → x ≡ y
if_told true x y z told is = is
if_told false x y z told is = absurd cc

-- ---- a whole text

pub text_read : (s : List ℕ) (ts rest : List Token) (v : Value Global) (o : Option Tree) → IsUtf8 s → ts ≡ tokens s → doc.value 127 ts ≡ Some (value_view v, rest) → rest ≡ []
    → IfSome o (λ t. Means (value_view v) (data_of t)) → IfSome o (λ t. json_read s ≡ Ok (data_of t))
text_read s ts rest v (Some t) utf8 of value end m =
    let whole : Option (doc.Json × List Token) → Option json.Data = λ o. option_and_then of_json (option_and_then (λ p. doc.if_last p.0 p.1) o) in
    let read_is : read s ≡ Some m.value = ap (λ us. whole (doc.value 127 us)) (sym of) ∙ ap whole value ∙ ap (λ r. whole (Some (value_view v, r))) end ∙ m.is in
    json_read-some s m.value utf8 read_is ∙ m.read
text_read s ts rest v None utf8 of value end m = tt
