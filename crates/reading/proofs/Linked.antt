-- The links that the parts of an image add are the links of the store that it says. Assumes nothing.
use Prim.Native.Nat.{ℕ, ◌+◌, ◌≤◌, ◌<◌}
use mathlib.Core.Path.{◌≡◌, sym, ◌∙◌, subst, subst₂}
use mathlib.Core.Logic.{◌⊎◌, inl, inr, ◌↔◌}
use mathlib.Core.List.{List}
use native.Mathlib.Omega.{arith}
use lib.Dec.{T}
use Rattle.search.proofs.Tests.{same_test}
use Rattle.sets.specs.Set.{Set, has}
use Rattle.store.specs.Store.{CommitNumber, Store}
use Rattle.store.specs.History.{Wrote, Read}
use Rattle.ordering.specs.Links.{links, IsCommit}
use Rattle.ordering.specs.Rows.{links_in, KeepLinks}
use Rattle.ordering.proofs.Shape.{WellFormed, SessionOrder, written-later}
use Rattle.ordering.proofs.Places.{Adds, to-reader, from-writer, from-reader, links-by-place}
use Rattle.store.specs.Reading.{image_keys, image_commits, commit_size, key_place, store_of}
use Rattle.reading.specs.Parts.{writer_at, readers_at}
use Rattle.reading.specs.Gains.{Gains, InSession, VersionLinks, KeyLinks, versions_in}
use Rattle.reading.proofs.Says.{says-within, within-said, says-writer, says-readers, says-only, says-client, says-session, says-commit, commit-said}
use Rattle.reading.proofs.Shaped.{Shaped, shaped-formed}
use Rattle.reading.proofs.Rows.{gains-then}
use Rattle.reading.proofs.Passing.{KeysLinks}

module _ (b : List ℕ) (h : Shaped b) where
  abbrev s : Store
  s = store_of b

  w : WellFormed s
  w = shaped-formed b h

  -- SO, and what the keys add
  abbrev FromEntries : CommitNumber → CommitNumber → Type 0
  FromEntries a c = (0 < c) × (c ≤ image_commits b) × InSession b (commit_size (image_keys b)) (image_commits b) a c

  abbrev Found : CommitNumber → CommitNumber → Type 0
  Found a c = FromEntries a c ⊎ KeysLinks b (image_keys b) a c

  abbrev Linked : CommitNumber → CommitNumber → Type 0
  Linked a c = (IsCommit s.commits a × IsCommit s.commits c) × (SessionOrder s w a c ⊎ ((k : ℕ) × (i : ℕ) × Adds s k i a c))

  -- ---- each link that is found is one

  entry-link : (a c : CommitNumber) → FromEntries a c → Linked a c
  entry-link a c (p, l, (ca, (e, f))) =
      let cc : IsCommit (image_commits b) c = (p, l) in (
        (says-commit b a ca, says-commit b c cc),
        inl (says-client b a ca ∙ e ∙ sym (says-client b c cc), subst₂ (λ (x y : ℕ). x < y) (sym (says-session b a ca)) (sym (says-session b c cc)) f),
      )

  module _ (k : ℕ) (l : k < image_keys b) where
    wrote : (i a : ℕ) → i < versions_in b k → a ≡ writer_at b (key_place b k + 4) i → Wrote s a k i
    wrote i a m e = (says-within b k l i m, says-writer b k l i m ∙ sym e)

    read : (i a : ℕ) → i < versions_in b k → T (has (readers_at b (key_place b k + 4) i) a) → Read s a k i
    read i a m t = (says-within b k l i m, subst (λ (x : ℕ). T (has x a)) (sym (says-readers b k l i m)) t)

    -- the writer of a later version, and a reader, are commits
    writer-commit : (i a : ℕ) → 0 < i → Wrote s a k i → IsCommit s.commits a
    writer-commit i a p x = subst (λ (y : ℕ). IsCommit s.commits y) x.1 (w.writers k i p x.0)

    reader-commit : (i a : ℕ) → Read s a k i → IsCommit s.commits a
    reader-commit i a x = w.readers k i a x.0 x.1

    version-link : (i a c : ℕ) → 0 < i → i < versions_in b k → VersionLinks b (key_place b k + 4) i a c → Linked a c
    version-link i a c p m (inl (e, n, (j, q, inl t))) =
        let r = read j a (omega arith) t in
        let v = wrote i c m e in
        ((reader-commit j a r, writer-commit i c p v), inr (k, i, from-reader q (λ z. n (z ∙ e)) r v))
    version-link i a c p m (inl (e, n, (j, q, inr (u, f)))) =
        let r = wrote j a (omega arith) f in
        let v = wrote i c m e in
        ((writer-commit j a u r, writer-commit i c p v), inr (k, i, from-writer q r v))
    version-link i a c p m (inr (e, t)) =
        let v = wrote i a m e in
        let r = read i c m t in
        ((writer-commit i a p v, reader-commit i c r), inr (k, i, to-reader v r))

    -- ---- and each link is found

    writer-there : (i a : ℕ) → Wrote s a k i → a ≡ writer_at b (key_place b k + 4) i
    writer-there i a (m, e) = sym e ∙ says-writer b k l i (within-said b k l i m)

    reader-there : (i a : ℕ) → Read s a k i → T (has (readers_at b (key_place b k + 4) i) a)
    reader-there i a (m, t) = subst (λ (x : ℕ). T (has x a)) (says-readers b k l i (within-said b k l i m)) t

    link-version : (i a c : ℕ) → IsCommit s.commits a → IsCommit s.commits c → Adds s k i a c → KeyLinks b (key_place b k + 4) (versions_in b k) a c
    link-version i a c ca cc (to-reader v r) = (i, written-later s w a k i ca v, within-said b k l i v.0, inr (writer-there i a v, reader-there i c r))
    link-version i a c ca cc (from-writer {j} q v u) = (
      i,
      omega arith,
      within-said b k l i u.0,
      inl (
        writer-there i c u,
        (λ z. let x = w.writes-once k j i v.0 u.0 (v.1 ∙ z ∙ sym (writer-there i c u) ∙ sym u.1) in absurd (omega (arith, x))),
        (j, q, inr (written-later s w a k j ca v, writer-there j a v)),
      ),
    )
    link-version i a c ca cc (from-reader {j} q n r u) = (
      i,
      omega arith,
      within-said b k l i u.0,
      inl (writer-there i c u, (λ z. n (z ∙ sym (writer-there i c u))), (j, q, inl (reader-there j a r))),
    )

  some-place : (k i a c : ℕ) → Adds s k i a c → k < image_keys b
  some-place k i a c (to-reader v r) = says-only b k i v.0
  some-place k i a c (from-writer q v u) = says-only b k i u.0
  some-place k i a c (from-reader q n r u) = says-only b k i u.0

  found-is : (a c : CommitNumber) → Found a c ↔ Linked a c
  found-is a c = (out, into)
    where
      out : Found a c → Linked a c
      out (inl x) = entry-link a c x
      out (inr (k, l, (i, p, m, v))) = version-link k l i a c p m v

      into : Linked a c → Found a c
      into ((ca, cc), inl (e, f)) =
          let da = commit-said b a ca in
          let dc = commit-said b c cc in
          inl (dc.0, dc.1, (da, (sym (says-client b a da) ∙ e ∙ says-client b c dc, subst₂ (λ (x y : ℕ). x < y) (says-session b a da) (says-session b c dc) f)))
      into ((ca, cc), inr (k, i, x)) = let l = some-place k i a c x in inr (k, l, link-version k l i a c ca cc x)

  -- rows that had no links, and gained those of the entries and those of the keys
  pub keep-links : (n commits : ℕ) {rows more last : List Set} → n ≡ image_keys b → commits ≡ image_commits b → ((a c : CommitNumber) → ¬ T (links_in rows a c))
      → Gains rows more (λ (a c : CommitNumber). (0 < c) × (c ≤ commits) × InSession b (commit_size n) commits a c) → Gains more last (KeysLinks b n)
      → KeepLinks last (links s)
  keep-links n commits {rows} {more} {last} e f none g x a c =
      same_test (links_in last a c) (links s a c) (λ t. is.1 ((found-is a c).0 (out ((all.says a c).0 t)))) (λ t. (all.says a c).1 (inr ((found-is a c).1 (is.0 t))))
    where
      all : Gains rows last Found
      all =
          gains-then (subst₂ (λ (k m : ℕ). Gains rows more (λ (a c : CommitNumber). (0 < c) × (c ≤ m) × InSession b (commit_size k) m a c)) e f g)
          (subst (λ (k : ℕ). Gains more last (KeysLinks b k)) e x)

      is : T (links s a c) ↔ Linked a c
      is = links-by-place s w a c

      out : T (links_in rows a c) ⊎ Found a c → Found a c
      out (inl t) = absurd (none a c t)
      out (inr y) = y
