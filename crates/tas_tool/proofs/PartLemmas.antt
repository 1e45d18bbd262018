-- Parts of two histories of which the same is reported have as many entries.
use Rattle.std.proofs.Common.{◌≡◌, ℕ, zero, suc, Bool, not, ◌&&◌, cond, List, [], ◌∷◌, ◌+◌, length, take, Option, Some, None, refl, sym, ap, ◌∙◌}
use Rattle.std.specs.Prelude.{map, nat_le, slice_get, option_map}
use Rattle.std.proofs.lemmas.List.{length-map, take-map}
use Rattle.std.proofs.lemmas.List.Sums.{sum_by-cons}
use Rattle.std.proofs.lemmas.Option.{slice_get-map}
use Rattle.tas_movie.specs.Content.{most_inputs}
use Rattle.tas_published.specs.declared.entry.Entry.{Entry}
use Rattle.tas_desk.specs.Parts.{inputs_of, inputs_in, may_be_one, may_both_be_one, is_between, can_end, last_end}

-- what a part asks of entries is the same of other ones
pub record AsksAlike {A B : Type 0} (f : Entry A → Entry B) : Type 0 where
  pub inputs : (entry : Entry A) → inputs_of (f entry).edit ≡ inputs_of entry.edit
  pub pairs : (entry next : Entry A) → may_be_one (f entry) (f next) ≡ may_be_one entry next

inputs_alike : {A B : Type 0} (f : Entry A → Entry B) → AsksAlike f → (entries : List (Entry A)) → inputs_in (map f entries) ≡ inputs_in entries
inputs_alike f alike [] = refl
inputs_alike {A} {B} f alike (entry ∷ entries) =
    sum_by-cons (λ (e : Entry B). inputs_of e.edit) (f entry) (map f entries)
    ∙ ap (λ (n : ℕ). n + inputs_in (map f entries)) (alike.inputs entry)
    ∙ ap (λ (n : ℕ). inputs_of entry.edit + n) (inputs_alike f alike entries)
    ∙ sym (sum_by-cons (λ (e : Entry A). inputs_of e.edit) entry entries)

both_alike : {A B : Type 0} (f : Entry A → Entry B) → AsksAlike f → (entry next : Option (Entry A)) → may_both_be_one (option_map f entry) (option_map f next) ≡ may_both_be_one entry next
both_alike f alike None next = refl
both_alike f alike (Some entry) None = refl
both_alike f alike (Some entry) (Some next) = alike.pairs entry next

between_alike : {A B : Type 0} (f : Entry A → Entry B) → AsksAlike f → (entries : List (Entry A)) (n : ℕ) → is_between (map f entries) n ≡ is_between entries n
unfolding is_between
between_alike f alike entries zero = refl
between_alike {A} {B} f alike entries (suc n) =
    ap (λ (o : Option (Entry B)). may_both_be_one o (slice_get (map f entries) (suc n))) (slice_get-map f entries n)
    ∙ ap (λ (o : Option (Entry B)). may_both_be_one (option_map f (slice_get entries n)) o) (slice_get-map f entries (suc n))
    ∙ both_alike f alike (slice_get entries n) (slice_get entries (suc n))

can_alike : {A B : Type 0} (f : Entry A → Entry B) → AsksAlike f → (entries : List (Entry A)) (n : ℕ) → can_end (map f entries) n ≡ can_end entries n
can_alike {A} {B} f alike entries n =
    let part : inputs_in (take n (map f entries)) ≡ inputs_in (take n entries) = ap (λ (l : List (Entry B)). inputs_in l) (take-map f n entries) ∙ inputs_alike f alike (take n entries) in
    ap (λ (m : ℕ). (nat_le n m && nat_le (inputs_in (take n (map f entries))) most_inputs) && not (is_between (map f entries) n)) (length-map entries f)
    ∙ ap (λ (m : ℕ). (nat_le n (length entries) && nat_le m most_inputs) && not (is_between (map f entries) n)) part
    ∙ ap (λ (b : Bool). (nat_le n (length entries) && nat_le (inputs_in (take n entries)) most_inputs) && not b) (between_alike f alike entries n)

pub ends_alike : {A B : Type 0} (f : Entry A → Entry B) → AsksAlike f → (entries : List (Entry A)) (n : ℕ) → last_end (map f entries) n ≡ last_end entries n
unfolding last_end
ends_alike f alike entries zero = refl
ends_alike f alike entries (suc n) =
    ap (λ (b : Bool). cond b (suc n) (last_end (map f entries) n)) (can_alike f alike entries (suc n))
    ∙ ap (λ (m : ℕ). cond (can_end entries (suc n)) (suc n) m) (ends_alike f alike entries n)
