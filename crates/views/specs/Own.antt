-- A view after a commit that is the view before and the versions that the commit appends. Assumes nothing.
use Rattle.store.specs.Store.{View, Store, Commit}
use Rattle.growth.specs.Views.{WithOwn}

-- the view after the commit, made on view u, is u and the versions that the commit appends
abbrev pub AddsOwn : Store → View → Commit → Type 0
AddsOwn s u c = WithOwn s c u c.view_after
