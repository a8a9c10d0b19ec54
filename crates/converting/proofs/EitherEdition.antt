-- A record of either sort in either edition: its bytes, and how many there are. Assumes nothing.
use Prim.Native.Nat.{ℕ, ◌*◌, ◌≤◌, ◌<◌}
use mathlib.Core.Path.{◌≡◌, refl, sym, ap, ◌∙◌, subst}
use mathlib.Core.List.{List}
use native.Mathlib.Omega.{arith}
use lib.ListN.{length}
use Rattle.search.proofs.Tests.{true-T}
use Rattle.sets.specs.Set.{Set}
use Rattle.endian.specs.Endian.{Bytes, put_at}
use Rattle.store.specs.Limits.{max_clients}
use Rattle.store.specs.Store.{Client, Configuration, shift, commit}
use Rattle.trace.specs.Entry.{view_meant, commit_meant, event}
use Rattle.trace.specs.Format.{operations_at, shift_length, commit_length, short_shift_length, short_commit_length}
use Rattle.trace.specs.Meaning.{listing_of, entry_of, OperationsFit, ListingFits}
use Rattle.trace.specs.WellFormed.{Rise}
use Rattle.trace.specs.Encode.{event_bytes}
use Rattle.trace.specs.Edition.{Edition, long, short, changed, short_shift_bytes, short_commit_bytes, record_bytes}
use Rattle.trace.specs.declared.records.Listing.{Listing}
use Rattle.trace.specs.declared.records.Record.{Record}
use Rattle.trace.specs.declared.records.Record.TheVariants.{Shift, Commit}
use Rattle.trace.proofs.Sizes.{length-event_bytes}
use Rattle.trace.proofs.Decoded.{operations-read, length-operations_at}
use Rattle.trace.proofs.Edition.{changed-small, length-short_shift, length-short_commit}
use Rattle.writing.proofs.Operations.{operations-few}
use Rattle.converting.specs.Parts.{PartsFit, Meant}

-- the bytes of a record of the file, in an edition
abbrev pub bytes_of : Edition → List ℕ → ℕ → Configuration → Record → List ℕ
bytes_of e file n g x = record_bytes e n g (event g (entry_of file n x))

module _ (file : List ℕ) (n : ℕ) {x : Record} where
  -- ---- a shift

  module _ {client : Client} {l : Listing} (is : x ≡ Shift client l) where
    pub shift-parts : PartsFit file n x → (client < max_clients) × ListingFits file n l
    shift-parts fits = subst (PartsFit file n) is fits

    -- the view that it means
    pub shift-view : {g : Configuration} {views : List ℕ} {base : ℕ} {fresh : List ℕ} → Meant g file n x views base fresh → Meant g file n (Shift client l) views base fresh
    shift-view {g} {views} {base} {fresh} m = subst (λ (r : Record). Meant g file n r views base fresh) is m

    pub long-shift : (g : Configuration) → bytes_of long file n g x ≡ event_bytes n (shift client (view_meant g client (listing_of file n l)))
    unfolding record_bytes event entry_of
    long-shift g = rw is refl

    pub long-shift-length : (g : Configuration) → length (bytes_of long file n g x) ≡ shift_length n
    long-shift-length g = ap length (long-shift g) ∙ length-event_bytes n (shift client (view_meant g client (listing_of file n l)))

    abbrev pub changes : Configuration → Set
    changes g = changed n (g.views client) (view_meant g client (listing_of file n l))

    pub short-shift : (g : Configuration) → bytes_of short file n g x ≡ short_shift_bytes n client (changes g) (view_meant g client (listing_of file n l))
    unfolding record_bytes event entry_of
    short-shift g = rw is refl

    pub short-shift-length : (g : Configuration) → length (bytes_of short file n g x) ≡ short_shift_length (changes g)
    short-shift-length g =
        ap length (short-shift g) ∙ length-short_shift n client (changes g) (view_meant g client (listing_of file n l)) (changed-small n (g.views client) (view_meant g client (listing_of file n l)))

    -- the masks of the keys in a set that is of those that change
    pub short-shift-put : (g : Configuration) (d : List ℕ) (at : ℕ) {listed : Set} {after : List ℕ} → listed ≡ changes g
        → after ≡ put_at d at (short_shift_bytes n client listed (view_meant g client (listing_of file n l))) → after ≡ put_at d at (bytes_of short file n g x)
    short-shift-put g d at same e =
        e ∙ ap (λ (m : Set). put_at d at (short_shift_bytes n client m (view_meant g client (listing_of file n l)))) same ∙ ap (put_at d at) (sym (short-shift g))

  -- ---- a commit

  module _ {client count session operations : ℕ} {l : Listing} (is : x ≡ Commit client count session operations l) where
    pub commit-parts : PartsFit file n x → (client < max_clients) × ListingFits file n l × OperationsFit file n operations count
    commit-parts fits = subst (PartsFit file n) is fits

    pub commit-view : {g : Configuration} {views : List ℕ} {base : ℕ} {fresh : List ℕ} → Meant g file n x views base fresh
        → Meant g file n (Commit client count session operations l) views base fresh
    commit-view {g} {views} {base} {fresh} m = subst (λ (r : Record). Meant g file n r views base fresh) is m

    -- its operations are few
    pub commit-few : PartsFit file n x → count ≤ 2 * n
    commit-few fits = let (below, listing, ops) = commit-parts fits in omega (arith, operations-few file operations n 0 count (omega arith) ops.1)

    commit-rises : Bytes file → PartsFit file n x → Rise n 0 (operations_at file operations count)
    commit-rises bytes fits = operations-read file bytes count operations n 0 (true-T _ (commit-parts fits).2.1)

    pub long-commit : (g : Configuration) → bytes_of long file n g x ≡ event_bytes n (commit (commit_meant g client session (operations_at file operations count) (listing_of file n l)))
    unfolding record_bytes event entry_of
    long-commit g = rw is refl

    pub long-commit-length : (g : Configuration) → length (bytes_of long file n g x) ≡ commit_length n count
    long-commit-length g =
        ap length (long-commit g) ∙ length-event_bytes n (commit (commit_meant g client session (operations_at file operations count) (listing_of file n l)))
        ∙ ap (commit_length n) (length-operations_at file operations count)

    pub short-commit : (g : Configuration) → bytes_of short file n g x ≡ short_commit_bytes n (commit_meant g client session (operations_at file operations count) (listing_of file n l))
    unfolding record_bytes event entry_of
    short-commit g = rw is refl

    pub short-commit-length : Bytes file → PartsFit file n x → (g : Configuration) → length (bytes_of short file n g x) ≡ short_commit_length count (operations_at file operations count)
    short-commit-length bytes fits g =
        let os = operations_at file operations count in
        ap length (short-commit g) ∙ length-short_commit n (commit_meant g client session os (listing_of file n l)) (commit-rises bytes fits)
        ∙ ap (λ (m : ℕ). short_commit_length m os) (length-operations_at file operations count)
