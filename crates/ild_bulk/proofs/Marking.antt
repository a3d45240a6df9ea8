-- Entries in one buffer, and the pieces of it.
use Rattle.std.proofs.Common.{◌≡◌, ℕ, zero, suc, ◌+◌, ◌-◌, ◌≤◌, ◌<◌, List, [], ◌∷◌, ◌++◌, length, take, drop, get_or, map, refl, sym, ap, ◌∙◌, subst, arith}
use Rattle.std.proofs.lemmas.List.{take_more, take_all, map-append, drop_at, take-append-le, drop-append-le, length-append, length-drop, length-map, get_or-map}
use Rattle.ild_data.specs.Data.{Data}
use Rattle.ild_node.specs.Hashed.{IsHashed, AreHashed}
use Rattle.ild_node.specs.declared.hashed.HashedEntry.{HashedEntry}
use Rattle.ild_node.specs.Keyed.{keyed_seen, keyed_rows}
use Rattle.ild_node.specs.declared.keyed.Keyed.{Keyed}
use Rattle.ild_bulk.specs.Keyed.{entry_spelled, IsMarked, AreMarked, HasEntries}
use Rattle.ild_bulk.specs.declared.entries.Mark.{Mark}
use Rattle.ild_bulk.specs.declared.entries.Entries.{Entries}

-- ---- marks

-- the last entry of a buffer
pub marked-last : (h : List ℕ → List ℕ) (e : List ℕ × Data) (front b : List ℕ) (m : Mark) → b ≡ front ++ entry_spelled e → m.from ≡ length front → m.hash ≡ h e.0 → m.len ≡ length b - m.from → IsMarked h b e m
marked-last h e front b m is from hash len =
    let long = ap length is ∙ length-append front (entry_spelled e) in
    let all : length (entry_spelled e) ≡ m.len = omega (arith, long, from, len) in
    record {
      hash = hash;
      within = omega (arith, long, from, all);
      spelled = ap (take m.len) (ap (drop m.from) is ∙ drop_at front (entry_spelled e) m.from (sym from)) ∙ take_all m.len (entry_spelled e) (omega (arith, all));
    }

marked_grown : (h : List ℕ → List ℕ) (e : List ℕ × Data) (b more : List ℕ) (m : Mark) → IsMarked h b e m → IsMarked h (b ++ more) e m
marked_grown h e b more m is =
    let within = is.within in
    let long = length-append b more in
    let rest = length-drop m.from b in
    record {
      hash = is.hash;
      within = omega (arith, within, long);
      spelled = ap (take m.len) (drop-append-le m.from b more (omega (arith, within))) ∙ take-append-le m.len (drop m.from b) more (omega (arith, within, rest)) ∙ is.spelled;
    }

-- they stand where bytes are appended
pub marks-grown : (h : List ℕ → List ℕ) (b more : List ℕ) (es : List (List ℕ × Data)) (ms : List Mark) → AreMarked h b es ms → AreMarked h (b ++ more) es ms
marks-grown h b more [] [] are = tt
marks-grown h b more [] (m ∷ ms) are = absurd are
marks-grown h b more (e ∷ es) [] are = absurd are
marks-grown h b more (e ∷ es) (m ∷ ms) are = (marked_grown h e b more m are.0, marks-grown h b more es ms are.1)

pub marked-push : (h : List ℕ → List ℕ) (b : List ℕ) (es : List (List ℕ × Data)) (ms : List Mark) (e : List ℕ × Data) (m : Mark) → AreMarked h b es ms → IsMarked h b e m → AreMarked h b (es ++ e ∷ []) (ms ++ m ∷ [])
marked-push h b [] [] e m are is = (is, tt)
marked-push h b [] (n ∷ ms) e m are is = absurd are
marked-push h b (f ∷ es) [] e m are is = absurd are
marked-push h b (f ∷ es) (n ∷ ms) e m are is = (are.0, marked-push h b es ms e m are.1 is)

pub marked-many : (h : List ℕ → List ℕ) (b : List ℕ) (es : List (List ℕ × Data)) (ms : List Mark) → AreMarked h b es ms → length es ≡ length ms
marked-many h b [] [] are = refl
marked-many h b [] (m ∷ ms) are = absurd are
marked-many h b (e ∷ es) [] are = absurd are
marked-many h b (e ∷ es) (m ∷ ms) are = ap suc (marked-many h b es ms are.1)

-- one entry more
pub entries-more : (h : List ℕ → List ℕ) (es : List (List ℕ × Data)) (was now : Entries) (e : List ℕ × Data) (m : Mark) → HasEntries h es was → now.out ≡ was.out ++ entry_spelled e → now.marks.items ≡ was.marks.items ++ m ∷ []
    → IsMarked h now.out e m → HasEntries h (es ++ e ∷ []) now
entries-more h es was now e m has grows pushes is = record {
  marks = subst (λ (ms : List Mark). AreMarked h now.out (es ++ e ∷ []) ms) (sym pushes)
      (marked-push h now.out es was.marks.items e m (subst (λ b. AreMarked h b es was.marks.items) (sym grows) (marks-grown h was.out (entry_spelled e) es was.marks.items has.marks)) is);
}

-- the next of rows with their hashes
pub keyed-next : (h : List ℕ → List ℕ) (ks : List Keyed) (i : ℕ) (k : Keyed) (w : Entries) → i < length ks → k ≡ get_or ks i k → HasEntries h (keyed_rows (take i ks) ++ keyed_seen k ∷ []) w → HasEntries h (keyed_rows (take (i + 1) ks)) w
keyed-next h ks i k w lt is has =
    subst (λ (es : List (List ℕ × Data)). HasEntries h es w) (sym (ap keyed_rows (take_more ks i k lt ∙ ap (λ x. take i ks ++ x ∷ []) (sym is)) ∙ map-append keyed_seen (take i ks) (k ∷ []))) has

-- ---- the pieces

hashed-push : (h : List ℕ → List ℕ) (es : List (List ℕ × Data)) (ks : List HashedEntry) (e : List ℕ × Data) (k : HashedEntry) → AreHashed h es ks → IsHashed h e k → AreHashed h (es ++ e ∷ []) (ks ++ k ∷ [])
hashed-push h [] [] e k are is = (is, tt)
hashed-push h [] (j ∷ ks) e k are is = absurd are
hashed-push h (f ∷ es) [] e k are is = absurd are
hashed-push h (f ∷ es) (j ∷ ks) e k are is = (are.0, hashed-push h es ks e k are.1 is)

pub pieces-none : (h : List ℕ → List ℕ) (ks : List HashedEntry) → ks ≡ [] → AreHashed h [] ks
pieces-none h ks none = subst (λ (js : List HashedEntry). AreHashed h [] js) (sym none) tt

-- the entry of a mark
marked_here : (h : List ℕ → List ℕ) (b : List ℕ) (es : List (List ℕ × Data)) (ms : List Mark) (i : ℕ) (d : Mark) → AreMarked h b es ms → i < length ms
    → (e : List ℕ × Data) × IsMarked h b e (get_or ms i d) × (take (suc i) es ≡ take i es ++ e ∷ [])
marked_here h b [] [] i d are lt = absurd (omega arith)
marked_here h b [] (m ∷ ms) i d are lt = absurd are
marked_here h b (e ∷ es) [] i d are lt = absurd are
marked_here h b (e ∷ es) (m ∷ ms) zero d are lt = (e, are.0, refl)
marked_here h b (e ∷ es) (m ∷ ms) (suc i) d are lt = let x = marked_here h b es ms i d are.1 (omega arith) in (x.0, x.1, ap (λ fs. e ∷ fs) x.2)

pub marked-next : {A : Type 0} (f : A → Mark) (h : List ℕ → List ℕ) (b : List ℕ) (es : List (List ℕ × Data)) (ms : List A) (i : ℕ) (d : A) (m : Mark) → AreMarked h b es (map f ms) → i < length ms → d ≡ get_or ms i d → m ≡ f d
    → (e : List ℕ × Data) × IsMarked h b e m × (take (i + 1) es ≡ take i es ++ e ∷ [])
marked-next f h b es ms i d m are lt is marks =
    let x = marked_here h b es (map f ms) i (f d) are (omega (arith, lt, length-map ms f)) in
    let next : i + 1 ≡ suc i = omega arith in
    (x.0, subst (IsMarked h b x.0) (sym (marks ∙ ap f is ∙ sym (get_or-map f ms i d (f d) lt))) x.1, ap (λ n. take n es) next ∙ x.2)

-- what is cut out at a mark of these bytes
abbrev pub CutsAt : List ℕ → HashedEntry → Mark → Type 0
CutsAt b k m = (k.hash ≡ m.hash) × (m.from + m.len ≤ length b → k.entry.now ≡ take m.len (drop m.from b))

pub pieces-more : {A : Type 0} (f : A → Mark) (h : List ℕ → List ℕ) (b : List ℕ) (es : List (List ℕ × Data)) (ms : List A) (i : ℕ) (d : A) (m : Mark) (ks : List HashedEntry) (k : HashedEntry)
    → AreMarked h b es (map f ms) → AreHashed h (take i es) ks → i < length ms → d ≡ get_or ms i d → m ≡ f d → CutsAt b k m → AreHashed h (take (i + 1) es) (ks ++ k ∷ [])
pieces-more f h b es ms i d m ks k are was lt is marks cut =
    let x = marked_here h b es (map f ms) i (f d) are (omega (arith, lt, length-map ms f)) in
    let here = subst (CutsAt b k) (marks ∙ ap f is ∙ sym (get_or-map f ms i d (f d) lt)) cut in
    let next : i + 1 ≡ suc i = omega arith in
    subst (λ (fs : List (List ℕ × Data)). AreHashed h fs (ks ++ k ∷ [])) (sym (ap (λ n. take n es) next ∙ x.2))
    (hashed-push h (take i es) ks x.0 k was (record { hash = here.0 ∙ x.1.hash; spelled = here.1 x.1.within ∙ x.1.spelled }))

-- all entries are taken
pub all-taken : {A : Type 0} (f : A → Mark) (h : List ℕ → List ℕ) (b : List ℕ) (es : List (List ℕ × Data)) (ms : List A) (i : ℕ) → AreMarked h b es (map f ms) → length ms ≤ i → take i es ≡ es
all-taken f h b es ms i are le = let many = marked-many h b es (map f ms) are in take_all i es (omega (arith, many, le, length-map ms f))
