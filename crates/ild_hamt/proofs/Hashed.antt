-- The hashes of the other keys where a way ends: gathered, counted, and given to the rows that are written.
use Rattle.std.proofs.Common.{◌≡◌, ◌≢◌, ℕ, suc, ◌+◌, ◌-◌, ◌≤◌, ◌<◌, nat_le, Bool, true, false, cond, not, ◌&&◌, List, [], ◌∷◌, ◌++◌, length, take, drop, get_or, Option, Some, None, is_some, refl, sym, ap, ◌∙◌, subst, arith, append-nil}
use Rattle.std.specs.Prelude.{slice_get, OnOk, Result}
use Rattle.std.specs.Borrow.{Bor}
use Rattle.std.specs.Ordering.{eq_by_cmp}
use Rattle.std.specs.FinMap.{find, put}
use Rattle.std.proofs.Math.Seq.{drop-cons}
use Rattle.std.proofs.lemmas.List.{take_more, map-append}
use Rattle.std.proofs.lemmas.List.Filters.{length-filter_more}
use Rattle.ild_data.specs.ByteOrder.{bytewise, without, IsInOrder}
use Rattle.ild_data.specs.Data.{Data}
use Rattle.ild_data.specs.declared.hamt_shape.HamtShape.{HamtShape}
use Rattle.ild_data.specs.TrieShape.{trie_levels}
use Rattle.ild_hamt_trie.proofs.Parts.{same_by_find, same_key, key_itself, in_order-put, in_order-without, find-put_at, find-without}
use Rattle.ild_cbor.specs.declared.node.Node.{Node}
use Rattle.ild_node.specs.Keyed.{keyed_rows, keyed_seen}
use Rattle.ild_node.specs.Rows.{row_seen, rows_seen}
use Rattle.ild_data.specs.Trie.{TrieSlot, empty, bucket, child, bucket_entries}
use Rattle.ild_data.specs.declared.id.BlockId.{BlockId}
use Rattle.ild_node_slots.specs.Views.{EntryIs, HasEntries, ValueIn, bucket_node}
use Rattle.ild_node_slots.specs.declared.view.NodeSlot.TheVariants as S
use Rattle.ild_hamt_climb.specs.Seen.{IsReadOf}
use Rattle.ild_node_slots.specs.declared.bucket.Bucket.{Bucket}
use Rattle.ild_node.specs.declared.keyed.Keyed.{Keyed}
use Rattle.ild_node.specs.declared.row.Row.{Row}
use Rattle.ild_hamt.specs.Ends.{agree, agreeing, agreeing_hashes, hashes_of, is_full}
use Rattle.ild_hamt_climb.specs.inside.Gathering.{some_entry}
use Rattle.ild_hamt_climb.proofs.Differing.{other-key}
use Rattle.ild_hamt_climb.proofs.PutEach.{got, without-append}

-- ---- the entries without a key

pub without-missing : (k : List ℕ) (es : List (List ℕ × Data)) → find bytewise k es ≡ None → without k es ≡ es
without-missing k [] none = refl
without-missing k (e ∷ es) none = by (eq_by_cmp bytewise k e.0) (without-missing k es) none
  where
    by : (b : Bool) → (find bytewise k es ≡ None → without k es ≡ es) → cond b (Some e.1) (find bytewise k es) ≡ None → cond (not b) (e ∷ without k es) (without k es) ≡ e ∷ es
    by true rest is = absurd cc
    by false rest is = ap (λ xs. e ∷ xs) (rest is)

pub without-put : (k : List ℕ) (v : Data) (es : List (List ℕ × Data)) → IsInOrder es → without k (put bytewise k v es) ≡ without k es
without-put k v es order =
    same_by_find _ _ (in_order-without k (put bytewise k v es) (in_order-put k v es order)) (in_order-without k es order)
    (λ q. find-without k (put bytewise k v es) q ∙ ap (λ o. cond (not (eq_by_cmp bytewise k q)) o None) (find-put_at q k v es)
    ∙ by q (eq_by_cmp bytewise k q) (eq_by_cmp bytewise q k) (find bytewise q es) refl refl ∙ sym (find-without k es q))
  where
    by : (q : List ℕ) (b c : Bool) (x : Option Data) → eq_by_cmp bytewise k q ≡ b → eq_by_cmp bytewise q k ≡ c → cond (not b) (cond c (Some v) x) None ≡ cond (not b) x None
    by q true c x one two = refl
    by q false true x one two = absurd (let same = same_key q k two in let itself : eq_by_cmp bytewise k q ≡ true = ap (eq_by_cmp bytewise k) same ∙ key_itself k in cc)
    by q false false x one two = refl

-- ---- hashes gathered

pub hash-more : (h : List ℕ → List ℕ) (k : List ℕ) (es : List (List ℕ × Data)) (now new : List (List ℕ)) (i : ℕ) → i < length es → now ≡ hashes_of h (without k (take i es))
    → new ≡ now ++ hashes_of h (without k (some_entry (slice_get es i))) → new ≡ hashes_of h (without k (take (i + 1) es))
hash-more h k es now new i lt was adds =
    adds ∙ ap (λ xs. xs ++ hashes_of h (without k (some_entry (slice_get es i)))) was
    ∙ sym (ap (λ xs. hashes_of h (without k xs)) (got es i lt) ∙ ap (hashes_of h) (without-append k (take i es) (some_entry (slice_get es i)))
    ∙ map-append (λ e. h e.0) (without k (take i es)) (without k (some_entry (slice_get es i))))

pub hash-same : (h : List ℕ → List ℕ) (b : Bucket) (es : List (List ℕ × Data)) (i : ℕ) (o : Option (List ℕ × Data)) (key : Bor (List ℕ)) (value : Node) (k : List ℕ) (hashes : List (List ℕ)) → EntryIs b es i o (Some (key, value)) → key.now ≡ k
    → hashes ≡ hashes ++ hashes_of h (without k (some_entry o))
hash-same h b es i None key value k hashes is same = absurd is
hash-same h b es i (Some e) key value k hashes is same =
    let itself : eq_by_cmp bytewise k e.0 ≡ true = ap (eq_by_cmp bytewise k) (sym is.0 ∙ same) ∙ key_itself k in
    sym (ap (λ c. hashes ++ hashes_of h (cond (not c) (e ∷ []) [])) itself ∙ append-nil hashes)

pub hash-apart : {E : Type 0} (r : Result (Unit {0}) E) (h : List ℕ → List ℕ) (b : Bucket) (es : List (List ℕ × Data)) (i : ℕ) (o : Option (List ℕ × Data)) (key : Bor (List ℕ)) (value : Node) (k : List ℕ) (hashes new : List (List ℕ)) → EntryIs b es i o (Some (key, value)) → key.now ≢ k
    → OnOk r (new ≡ hashes ++ h key.now ∷ []) → OnOk r (new ≡ hashes ++ hashes_of h (without k (some_entry o)))
hash-apart r h b es i None key value k hashes new is apart adds = absurd is
hash-apart r h b es i (Some e) key value k hashes new is apart adds =
    let other : eq_by_cmp bytewise k e.0 ≡ false = other-key k e.0 (eq_by_cmp bytewise k e.0) refl (λ same. apart (is.0 ∙ sym same)) in
    subst (λ (xs : List (List ℕ)). OnOk r (new ≡ xs)) (ap (λ x. hashes ++ h x ∷ []) is.0 ∙ sym (ap (λ c. hashes ++ hashes_of h (cond (not c) (e ∷ []) [])) other)) adds

pub hash-none : (h : List ℕ → List ℕ) (b : Bucket) (es : List (List ℕ × Data)) (i : ℕ) (o : Option (List ℕ × Data)) (k : List ℕ) (hashes : List (List ℕ)) → EntryIs b es i o None → hashes ≡ hashes ++ hashes_of h (without k (some_entry o))
hash-none h b es i None k hashes is = sym (append-nil hashes)
hash-none h b es i (Some e) k hashes is = absurd is

-- ---- hashes counted

pub record CountedTo (p : HamtShape) (hash : List ℕ) (depth : ℕ) (hashes : List (List ℕ)) (i count : ℕ) : Type 0 where
  pub few : count ≤ i
  pub is : count ≡ length (agreeing_hashes p hash depth (take i hashes))

pub count-hash : (p : HamtShape) (hash : List ℕ) (depth : ℕ) (hashes : List (List ℕ)) (i count one new : ℕ) (d : List ℕ) → i < length hashes → one ≤ 1
    → one ≡ cond (agree p (get_or hashes i d) hash (trie_levels p - depth) depth) 1 0 → new ≡ count + one → CountedTo p hash depth hashes i count → CountedTo p hash depth hashes (i + 1) new
count-hash p hash depth hashes i count one new d lt le is sum was =
    let f : List ℕ → Bool = λ a. agree p a hash (trie_levels p - depth) depth in
    let few = was.few in
    record {
      few = omega (arith, sum, le, few);
      is = sum ∙ (λ j. was.is j + is j) ∙ sym (length-filter_more f hashes i d lt);
    }

pub length-agreeing : (h : List ℕ → List ℕ) (p : HamtShape) (hash : List ℕ) (depth : ℕ) (es : List (List ℕ × Data)) → length (agreeing_hashes p hash depth (hashes_of h es)) ≡ length (agreeing h p hash depth es)
length-agreeing h p hash depth [] = refl
length-agreeing h p hash depth (e ∷ es) = by (agree p (h e.0) hash (trie_levels p - depth) depth) (length-agreeing h p hash depth es)
  where
    by : (b : Bool) → length (agreeing_hashes p hash depth (hashes_of h es)) ≡ length (agreeing h p hash depth es)
        → length (cond b (h e.0 ∷ agreeing_hashes p hash depth (hashes_of h es)) (agreeing_hashes p hash depth (hashes_of h es))) ≡ length (cond b (e ∷ agreeing h p hash depth es) (agreeing h p hash depth es))
    by true is = ap suc is
    by false is = is

-- where the key is missing, the others are all
pub full-others : (h : List ℕ → List ℕ) (p : HamtShape) (k hash : List ℕ) (depth : ℕ) (es : List (List ℕ × Data)) (others : List (List ℕ)) → others ≡ hashes_of h (without k es)
    → (not (is_some (find bytewise k es)) && nat_le p.bucket (length (agreeing_hashes p hash depth others))) ≡ is_full h p k hash depth es
full-others h p k hash depth es others are = by (find bytewise k es) refl
  where
    by : (o : Option Data) → find bytewise k es ≡ o → (not (is_some o) && nat_le p.bucket (length (agreeing_hashes p hash depth others))) ≡ (not (is_some o) && nat_le p.bucket (length (agreeing h p hash depth es)))
    by (Some d) found = refl
    by None found = ap (λ n. nat_le p.bucket n) (ap (λ xs. length (agreeing_hashes p hash depth xs)) (are ∙ ap (hashes_of h) (without-missing k es found)) ∙ length-agreeing h p hash depth es)

pub missing-found : (b : Bucket) (s : TrieSlot) (key : List ℕ) (n : Node) → IsReadOf (S.Bucket b) s → ((es : List (List ℕ × Data)) → HasEntries b es → ValueIn (bucket_node b) es key (find bytewise key es) (Some n))
    → false ≡ not (is_some (find bytewise key (bucket_entries s)))
missing-found b empty key n shows finds = absurd shows
missing-found b (child c) key n shows finds = absurd shows
missing-found b (bucket es) key n shows finds = by (find bytewise key es) (finds es shows)
  where
    by : (o : Option Data) → ValueIn (bucket_node b) es key o (Some n) → false ≡ not (is_some o)
    by None is = absurd is
    by (Some d) is = refl

pub missing-none : (b : Bucket) (s : TrieSlot) (key : List ℕ) → IsReadOf (S.Bucket b) s → ((es : List (List ℕ × Data)) → HasEntries b es → ValueIn (bucket_node b) es key (find bytewise key es) None)
    → true ≡ not (is_some (find bytewise key (bucket_entries s)))
missing-none b empty key shows finds = absurd shows
missing-none b (child c) key shows finds = absurd shows
missing-none b (bucket es) key shows finds = by (find bytewise key es) (finds es shows)
  where
    by : (o : Option Data) → ValueIn (bucket_node b) es key o None → true ≡ not (is_some o)
    by None is = refl
    by (Some d) is = absurd is

pub missing-empty : (s : TrieSlot) (key : List ℕ) → IsReadOf S.Empty s → true ≡ not (is_some (find bytewise key (bucket_entries s)))
missing-empty empty key shows = refl
missing-empty (bucket es) key shows = absurd shows
missing-empty (child c) key shows = absurd shows

pub missing-child : (id : BlockId) (s : TrieSlot) (key : List ℕ) → IsReadOf (S.Child id) s → true ≡ not (is_some (find bytewise key (bucket_entries s)))
missing-child id empty key shows = absurd shows
missing-child id (bucket es) key shows = absurd shows
missing-child id (child c) key shows = refl

-- ---- hashes given to rows

pub take-same : (h : List ℕ → List ℕ) (k : List ℕ) (r : List ℕ × Data) (es : List (List ℕ × Data)) → r.0 ≡ k → hashes_of h (without k (r ∷ es)) ≡ hashes_of h (without k es)
take-same h k r es same =
    let itself : eq_by_cmp bytewise k r.0 ≡ true = ap (eq_by_cmp bytewise k) same ∙ key_itself k in
    ap (λ c. hashes_of h (cond (not c) (r ∷ without k es) (without k es))) itself

pub take-other : (h : List ℕ → List ℕ) (k : List ℕ) (r : List ℕ × Data) (es : List (List ℕ × Data)) → r.0 ≢ k → hashes_of h (without k (r ∷ es)) ≡ h r.0 ∷ hashes_of h (without k es)
take-other h k r es apart =
    let other : eq_by_cmp bytewise k r.0 ≡ false = other-key k r.0 (eq_by_cmp bytewise k r.0) refl (λ same. apart (sym same)) in
    ap (λ c. hashes_of h (cond (not c) (r ∷ without k es) (without k es))) other

pub took-other : (h : List ℕ → List ℕ) (k : List ℕ) (r : List ℕ × Data) (es : List (List ℕ × Data)) (first : List ℕ) (left rest : List (List ℕ)) → r.0 ≢ k → left ≡ hashes_of h (without k (r ∷ es)) → left ≡ first ∷ rest
    → (first ≡ h r.0) × (rest ≡ hashes_of h (without k es))
took-other h k r es first left rest apart are split =
    let same : first ∷ rest ≡ h r.0 ∷ hashes_of h (without k es) = sym split ∙ are ∙ take-other h k r es apart in
    (ap (head_or (h r.0)) same, ap tail same)
  where
    head_or : List ℕ → List (List ℕ) → List ℕ
    head_or d [] = d
    head_or d (x ∷ xs) = x

    tail : List (List ℕ) → List (List ℕ)
    tail [] = []
    tail (x ∷ xs) = xs

pub took-none : (h : List ℕ → List ℕ) (k : List ℕ) (r : List ℕ × Data) (es : List (List ℕ × Data)) (left : List (List ℕ)) → r.0 ≢ k → left ≡ hashes_of h (without k (r ∷ es)) → length left ≡ 0 → ⊥
took-none h k r es left apart are none = absurd (let e = ap length (are ∙ take-other h k r es apart) in omega (arith, e, none))

pub rows-from : (rows : List Row) (i : ℕ) (r : Row) → i < length rows → r ≡ get_or rows i r → rows_seen (drop i rows) ≡ row_seen r ∷ rows_seen (drop (i + 1) rows)
rows-from rows i r lt here =
    let e : suc i ≡ i + 1 = omega arith in
    ap rows_seen (drop-cons rows i r lt ∙ (λ j. sym here j ∷ drop (e j) rows))

pub rows-more : (rows : List Row) (i : ℕ) (ks new : List Keyed) (k : Keyed) (r : Row) → keyed_rows ks ≡ rows_seen (take i rows) → new ≡ ks ++ k ∷ [] → k.row.now ≡ r → i < length rows → r ≡ get_or rows i r
    → keyed_rows new ≡ rows_seen (take (i + 1) rows)
rows-more rows i ks new k r was pushes row lt is =
    ap keyed_rows pushes ∙ map-append keyed_seen ks (k ∷ []) ∙ (λ j. was j ++ row_seen (row j) ∷ [])
    ∙ sym (ap rows_seen (take_more rows i r lt ∙ ap (λ t. take i rows ++ t ∷ []) (sym is)) ∙ map-append row_seen (take i rows) (r ∷ []))

-- the hashes of the others serve the rows with the pair
pub others-put : (h : List ℕ → List ℕ) (k key : List ℕ) (v : Data) (gs rows : List (List ℕ × Data)) (others : List (List ℕ)) → IsInOrder gs → others ≡ hashes_of h (without k gs) → key ≡ k → rows ≡ put bytewise k v gs
    → others ≡ hashes_of h (without key rows)
others-put h k key v gs rows others order are named puts = are ∙ ap (hashes_of h) (sym ((λ i. without (named i) (puts i)) ∙ without-put k v gs order))
