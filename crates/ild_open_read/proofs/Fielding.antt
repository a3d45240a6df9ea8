-- Reading the fields of a struct, one after another.
use Rattle.std.proofs.Common.{◌≡◌, ℕ, zero, suc, ◌+◌, ◌≤◌, List, [], ◌∷◌, ◌++◌, length, length-append, Bool, true, Option, Some, None, refl, sym, ◌∙◌, ap, subst, append_assoc, append-nil, arith}
use Rattle.std.specs.Prelude.{Ok, Err, slice_get}
use Rattle.std.specs.List.{AllByRecursion}
use Rattle.std.proofs.lemmas.Option.{none-some, same_Some}
use Rattle.ild_data.specs.Data.{Data}
use Rattle.ild_edges.specs.Store.{Moment}
use Rattle.ild_schema.specs.Value as V
use Rattle.ild_schema.specs.Value.{Value, Optionals, optionals_list, optionals_of}
use Rattle.ild_schema.specs.ValueSeen.{optional_of, value_of}
use Rattle.ild_schema.specs.declared.def.Field.{Field}
use Rattle.ild_schema.specs.declared.number.Slot.{Slot}
use Rattle.ild_schema.specs.declared.row.Row.{Row}
use Rattle.ild_schema.specs.declared.val.Val.{Val}
use Rattle.ild_open_held.specs.Splits.{HasFront, field_parts, field_values}
use Rattle.ild_open_parts.specs.Fields.{FieldFits, ReadsField}
use Rattle.ild_open_parts.specs.Reads.{HasRead, Reads, ReadsParts}
use Rattle.ild_open_parts.specs.declared.fault.OpenFault.{OpenFault}
use Rattle.ild_open_parts.specs.declared.fault.OpenFault.TheVariants as F
use Rattle.ild_open_parts.proofs.Turning.{part_stops, parts_done, parts_memory, read_keeps, read_more, read_none}

parts_more : (fs gs : List Field) (os ps : List (Option Data)) → length fs ≡ length os → field_parts (fs ++ gs) (os ++ ps) ≡ field_parts fs os ++ field_parts gs ps
parts_more [] gs [] ps same = refl
parts_more [] gs (o ∷ os) ps same = absurd (omega (arith, same))
parts_more (f ∷ fs) gs [] ps same = absurd (omega (arith, same))
parts_more (f ∷ fs) gs (None ∷ os) ps same = parts_more fs gs os ps (omega (arith, same))
parts_more (f ∷ fs) gs (Some d ∷ os) ps same = ap (λ xs. (f.slot, d) ∷ xs) (parts_more fs gs os ps (omega (arith, same)))

optionals_back : (os : Optionals) → optionals_of (optionals_list os) ≡ os
optionals_back V.no_optionals = refl
optionals_back (V.absent os) = ap V.absent (optionals_back os)
optionals_back (V.present v os) = ap (V.present v) (optionals_back os)

-- how many fields are there
pub somes : List (Option Data) → ℕ
somes [] = 0
somes (None ∷ os) = somes os
somes (Some d ∷ os) = somes os + 1

somes_more : (os : List (Option Data)) (d : Data) → somes (os ++ Some d ∷ []) ≡ somes os + 1
unfolding somes
somes_more [] d = refl
somes_more (None ∷ os) d = somes_more os d
somes_more (Some e ∷ os) d = ap (λ n. n + 1) (somes_more os d)

somes_same : (os : List (Option Data)) → somes (os ++ None ∷ []) ≡ somes os
unfolding somes
somes_same [] = refl
somes_same (None ∷ os) = somes_same os
somes_same (Some e ∷ os) = ap (λ n. n + 1) (somes_same os)

values_none : (os : List (Option Data)) (vs : List Value) → field_values (os ++ None ∷ []) vs ≡ field_values os vs ++ None ∷ []
values_none [] vs = refl
values_none (None ∷ os) vs = ap (λ xs. None ∷ xs) (values_none os vs)
values_none (Some d ∷ os) [] = ap (λ xs. None ∷ xs) (values_none os [])
values_none (Some d ∷ os) (v ∷ vs) = ap (λ xs. Some v ∷ xs) (values_none os vs)

values_more : (os : List (Option Data)) (d : Data) (vs : List Value) (v : Value) → length vs ≡ somes os → field_values (os ++ Some d ∷ []) (vs ++ v ∷ []) ≡ field_values os vs ++ Some v ∷ []
unfolding somes
values_more [] d [] v same = refl
values_more [] d (w ∷ vs) v same = absurd (omega (arith, same))
values_more (None ∷ os) d vs v same = ap (λ xs. None ∷ xs) (values_more os d vs v same)
values_more (Some e ∷ os) d [] v same = absurd (omega (arith, same))
values_more (Some e ∷ os) d (w ∷ vs) v same = ap (λ xs. Some w ∷ xs) (values_more os d vs v (omega (arith, same)))

-- what stands behind the first ones
pub record GotFirst {A : Type 0} (rest : List A) (x : A) : Type 0 where
  pub others : List A
  pub is : rest ≡ x ∷ others

got_first : {A : Type 0} (done rest : List A) (i : ℕ) (x : A) → length done ≡ i → slice_get (done ++ rest) i ≡ Some x → GotFirst rest x
got_first [] [] zero x same e = absurd (none-some x e)
got_first [] (y ∷ rest) zero x same e = record { others = rest; is = ap (λ z. z ∷ rest) (same_Some y x e) }
got_first [] rest (suc i) x same e = absurd (omega (arith, same))
got_first (y ∷ done) rest zero x same e = absurd (omega (arith, same))
got_first (y ∷ done) rest (suc i) x same e = got_first done rest i x (omega (arith, same)) e

none_behind : {A : Type 0} (whole done rest : List A) (i : ℕ) → whole ≡ done ++ rest → length done ≡ i → length whole ≤ i → rest ≡ []
none_behind whole done [] i is same most = refl
none_behind whole done (x ∷ rest) i is same most = let a = ap length is in let b = length-append done (x ∷ rest) in absurd (omega (arith, same, most, a, b))

module _ (h : List ℕ → List ℕ) (at : List ℕ) (rows : List Row) (room : ℕ) (keep : Bool) (fs : List Field) (os : List (Option Data)) where
  -- the fields that are kept
  pub record Keeps (held : List (Option Data)) (vals : Optionals) (vs : List Value) : Type 0 where
    pub many : length vs ≡ somes held
    pub are : optionals_list vals ≡ field_values held vs

  pub record Fielding (i : ℕ) (vals : Optionals) (m n : Moment) : Type 0 where
    pub done : List Field
    pub rest : List Field
    pub is : fs ≡ done ++ rest
    pub held : List (Option Data)
    pub left : List (Option Data)
    pub are : os ≡ held ++ left
    pub many : length done ≡ i
    pub same : length held ≡ i
    pub fronts : AllByRecursion (HasFront rows room) (field_parts rest left)
    pub read : HasRead h rows room (field_parts done held) keep (Keeps held vals) m n

  abbrev Make : List Value → Value
  Make vs = V.struct (optionals_of (field_values os vs))

  pub fielding_begins : (m : Moment) → AllByRecursion (HasFront rows room) (field_parts fs os) → Fielding 0 V.no_optionals m m
  unfolding somes
  fielding_begins m fronts = record {
    done = [];
    rest = fs;
    is = refl;
    held = [];
    left = os;
    are = refl;
    many = refl;
    same = refl;
    fronts = fronts;
    read = read_none h rows room keep (Keeps [] V.no_optionals) m (record { many = refl; are = refl });
  }

  whole_is : (i : ℕ) (vals : Optionals) (m n : Moment) (x : Fielding i vals m n) → field_parts fs os ≡ field_parts x.done x.held ++ field_parts x.rest x.left
  whole_is i vals m n x = ap (λ gs. field_parts gs os) x.is ∙ ap (field_parts (x.done ++ x.rest)) x.are ∙ parts_more x.done x.rest x.held x.left (x.many ∙ sym x.same)

  module _ (i : ℕ) (vals : Optionals) (m n : Moment) (f : Field) (known : slice_get fs i ≡ Some f) where
    -- the field that is next
    record Next (o : Option Data) (x : Fielding i vals m n) : Type 0 where
      fields : List Field
      others : List (Option Data)
      first : x.rest ≡ f ∷ fields
      is : x.left ≡ o ∷ others
      fronts : AllByRecursion (HasFront rows room) (field_parts (f ∷ fields) (o ∷ others))
      whole : field_parts fs os ≡ field_parts x.done x.held ++ field_parts (f ∷ fields) (o ∷ others)

    next : (o : Option Data) (x : Fielding i vals m n) → slice_get os i ≡ Some o → Next o x
    next o x there =
        let a = got_first x.done x.rest i f x.many (ap (λ gs. slice_get gs i) (sym x.is) ∙ known) in
        let b = got_first x.held x.left i o x.same (ap (λ ps. slice_get ps i) (sym x.are) ∙ there) in
        record {
          fields = a.others;
          others = b.others;
          first = a.is;
          is = b.is;
          fronts = subst (λ gs. AllByRecursion (HasFront rows room) (field_parts gs (o ∷ b.others))) a.is (subst (λ ps. AllByRecursion (HasFront rows room) (field_parts x.rest ps)) b.is x.fronts);
          whole = whole_is i vals m n x ∙ ap (λ gs. field_parts x.done x.held ++ field_parts gs x.left) a.is ∙ ap (λ ps. field_parts x.done x.held ++ field_parts (f ∷ a.others) ps) b.is;
        }

    -- it has a front, where it is there
    pub fielding_front : (o : Option Data) → Fielding i vals m n → slice_get os i ≡ Some o → FieldFits rows room f.slot o
    fielding_front None x there = tt
    fielding_front (Some d) x there = (next (Some d) x there).fronts.0

    grown : (xs : List Field) → length xs ≡ i → length (xs ++ f ∷ []) ≡ i + 1
    grown xs same = let a = length-append xs (f ∷ []) in omega (arith, same, a)

    more_held : (xs : List (Option Data)) (o : Option Data) → length xs ≡ i → length (xs ++ o ∷ []) ≡ i + 1
    more_held xs o same = let a = length-append xs (o ∷ []) in omega (arith, same, a)

    module _ (x : Fielding i vals m n) (o' : Moment) where
      step_parts : (o : Option Data) → field_parts (x.done ++ f ∷ []) (x.held ++ o ∷ []) ≡ field_parts x.done x.held ++ field_parts (f ∷ []) (o ∷ [])
      step_parts o = parts_more x.done (f ∷ []) x.held (o ∷ []) (x.many ∙ sym x.same)

      moved : (o : Option Data) (y : Next o x) (more : Optionals) → AllByRecursion (HasFront rows room) (field_parts y.fields y.others)
          → HasRead h rows room (field_parts x.done x.held ++ field_parts (f ∷ []) (o ∷ [])) keep (Keeps (x.held ++ o ∷ []) more) m o' → Fielding (i + 1) more m o'
      moved o y more fronts read = record {
        done = x.done ++ f ∷ [];
        rest = y.fields;
        is = x.is ∙ ap (λ gs. x.done ++ gs) y.first ∙ sym (append_assoc x.done (f ∷ []) y.fields);
        held = x.held ++ o ∷ [];
        left = y.others;
        are = x.are ∙ ap (λ ps. x.held ++ ps) y.is ∙ sym (append_assoc x.held (o ∷ []) y.others);
        many = grown x.done x.many;
        same = more_held x.held o x.same;
        fronts = fronts;
        read = subst (λ ps. HasRead h rows room ps keep (Keeps (x.held ++ o ∷ []) more) m o') (sym (step_parts o)) read;
      }

      keeps_none : (more : Optionals) (vs : List Value) → optionals_list more ≡ optionals_list vals ++ None ∷ [] → Keeps x.held vals vs → Keeps (x.held ++ None ∷ []) more vs
      keeps_none more vs added k = record { many = k.many ∙ sym (somes_same x.held); are = added ∙ ap (λ ps. ps ++ None ∷ []) k.are ∙ sym (values_none x.held vs) }

      keeps_some : (d : Data) (more : Optionals) (vs : List Value) (v : Value) → optionals_list more ≡ optionals_list vals ++ Some v ∷ [] → Keeps x.held vals vs → Keeps (x.held ++ Some d ∷ []) more (vs ++ v ∷ [])
      keeps_some d more vs v added k = record {
        many = let a = length-append vs (v ∷ []) in let b = somes_more x.held d in let c = k.many in omega (arith, a, b, c);
        are = added ∙ ap (λ ps. ps ++ Some v ∷ []) k.are ∙ sym (values_more x.held d vs v k.many);
      }

      pub fielding_goes : (o : Option Data) → slice_get os i ≡ Some o → (r : Option Val) (more : Optionals) → (FieldFits rows room f.slot o → ReadsField h at rows room f.slot o keep n (Ok r) o')
          → (keep ≡ true → optionals_list more ≡ optionals_list vals ++ optional_of r ∷ []) → Fielding (i + 1) more m o'
      fielding_goes None there r more read added =
          let y = next None x there in
          let a = read tt in
          let none : r ≡ None = cc a.0 in
          let stays : HasRead h rows room (field_parts x.done x.held) keep (Keeps x.held vals) m o' = subst (λ q. HasRead h rows room (field_parts x.done x.held) keep (Keeps x.held vals) m q) (sym a.1) x.read in
          moved None y more y.fronts
          (subst (λ ps. HasRead h rows room ps keep (Keeps (x.held ++ None ∷ []) more) m o') (sym (append-nil (field_parts x.done x.held)))
          (read_keeps h rows room keep (field_parts x.done x.held) (Keeps x.held vals) (Keeps (x.held ++ None ∷ []) more) m o' stays
          (λ vs k kept. keeps_none more vs (subst (λ q. optionals_list more ≡ optionals_list vals ++ optional_of q ∷ []) none (added k)) kept)))
      fielding_goes (Some d) there None more read added = let y = next (Some d) x there in absurd (read y.fronts.0)
      fielding_goes (Some d) there (Some val) more read added =
          let y = next (Some d) x there in
          moved (Some d) y more y.fronts.1
          (read_more h at rows room keep (field_parts x.done x.held) (f.slot, d) (Keeps x.held vals) (Keeps (x.held ++ Some d ∷ []) more) m n o' val x.read (read y.fronts.0)
          (λ vs k kept. keeps_some d more vs (value_of val) (added k) kept))

      pub fielding_stops : (o : Option Data) → slice_get os i ≡ Some o → (e : OpenFault) → (FieldFits rows room f.slot o → ReadsField h at rows room f.slot o keep n (Err e) o') → ReadsParts h at rows room (field_parts fs os) keep Make m (Err e) o'
      fielding_stops None there e read = let a = (read tt).0 in absurd cc
      fielding_stops (Some d) there e read =
          let y = next (Some d) x there in
          subst (λ ps. ReadsParts h at rows room ps keep Make m (Err e) o') (sym y.whole)
          (part_stops h at rows room keep (field_parts x.done x.held) (field_parts y.fields y.others) (f.slot, d) (Keeps x.held vals) Make m n o' e x.read (read y.fronts.0))

      -- the field was read, and there is no room for it
      pub fielding_wants : (o : Option Data) → slice_get os i ≡ Some o → (r : Option Val) → (FieldFits rows room f.slot o → ReadsField h at rows room f.slot o keep n (Ok r) o')
          → ReadsParts h at rows room (field_parts fs os) keep Make m (Err F.Memory) o'
      fielding_wants None there r read =
          let y = next None x there in
          let a = read tt in
          subst (λ ps. ReadsParts h at rows room ps keep Make m (Err F.Memory) o') (sym y.whole)
          (subst (λ q. ReadsParts h at rows room (field_parts x.done x.held ++ field_parts y.fields y.others) keep Make m (Err F.Memory) q) (sym a.1)
          (parts_memory h at rows room keep (field_parts x.done x.held) (field_parts y.fields y.others) (Keeps x.held vals) Make m n x.read))
      fielding_wants (Some d) there None read = let y = next (Some d) x there in absurd (read y.fronts.0)
      fielding_wants (Some d) there (Some val) read =
          let y = next (Some d) x there in
          let s = read_more h at rows room keep (field_parts x.done x.held) (f.slot, d) (Keeps x.held vals) (λ vs. Unit {0}) m n o' val x.read (read y.fronts.0) (λ vs k g. tt) in
          subst (λ ps. ReadsParts h at rows room ps keep Make m (Err F.Memory) o')
          (append_assoc (field_parts x.done x.held) ((f.slot, d) ∷ []) (field_parts y.fields y.others) ∙ sym y.whole)
          (parts_memory h at rows room keep (field_parts x.done x.held ++ (f.slot, d) ∷ []) (field_parts y.fields y.others) (λ vs. Unit {0}) Make m o' s)

  pub fielding_ends : (i : ℕ) (vals : Optionals) (m n : Moment) (val : Val) → length fs ≡ length os → length fs ≤ i → value_of val ≡ V.struct vals → Fielding i vals m n → ReadsParts h at rows room (field_parts fs os) keep Make m (Ok val) n
  fielding_ends i vals m n val same most made x =
      let no_field = none_behind fs x.done x.rest i x.is x.many most in
      let few : length os ≤ i = omega (arith, same, most) in
      let no_part = none_behind os x.held x.left i x.are x.same few in
      let fields : fs ≡ x.done = x.is ∙ ap (λ gs. x.done ++ gs) no_field ∙ append-nil x.done in
      let parts : os ≡ x.held = x.are ∙ ap (λ ps. x.held ++ ps) no_part ∙ append-nil x.held in
      subst (λ ps. ReadsParts h at rows room ps keep Make m (Ok val) n) (sym (ap (λ gs. field_parts gs os) fields ∙ ap (field_parts x.done) parts))
      (parts_done h at rows room keep (field_parts x.done x.held) (Keeps x.held vals) Make m n val x.read
      (λ vs k e. made ∙ ap V.struct (sym (optionals_back vals) ∙ ap optionals_of (e.are ∙ ap (λ ps. field_values ps vs) (sym parts)))))

-- the data of a field that is there were read
pub field_done : (h : List ℕ → List ℕ) (at : List ℕ) (rows : List Row) (room : ℕ) (s : Slot) (o : Option Data) (d : Data) (keep : Bool) (m n : Moment) (val : Val) → o ≡ Some d → Reads h at rows room (s, d) keep m (Ok val) n
    → ReadsField h at rows room s o keep m (Ok (Some val)) n
field_done h at rows room s o d keep m n val is x = subst (λ q. ReadsField h at rows room s q keep m (Ok (Some val)) n) (sym is) x

-- or are at fault
pub field_stops : (h : List ℕ → List ℕ) (at : List ℕ) (rows : List Row) (room : ℕ) (s : Slot) (o : Option Data) (d : Data) (keep : Bool) (m n : Moment) (e : OpenFault) → o ≡ Some d → Reads h at rows room (s, d) keep m (Err e) n
    → ReadsField h at rows room s o keep m (Err e) n
field_stops h at rows room s o d keep m n e is x = subst (λ q. ReadsField h at rows room s q keep m (Err e) n) (sym is) x
