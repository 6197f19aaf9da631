-- A new instance, on which a function may be called.
use Rattle.syntax.specs.declared.contents.Contents.{Contents}
use Rattle.valid.specs.Valid.{ValidModule}
use Rattle.instance.specs.Store.{Store}
use Rattle.instance.specs.Fresh.{IsFresh}
use Rattle.instance.specs.Storing.{IsStoreOf}

-- the module is valid, and the store is that of a new instance of it
pub record IsReadyToRun (m : Contents) (s : Store) : Type 0 where
  pub valid : ValidModule m
  pub fresh : IsFresh m s
  pub store : IsStoreOf m s
