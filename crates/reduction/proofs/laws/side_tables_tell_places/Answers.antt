use Rattle.reduction.proofs.PlacesOfRuns.{reached_placed}
use Rattle.reduction.proofs.PlacesKept.{leads}
use Rattle.reduction.proofs.PlacesOperands.{left_by, stays}
use Rattle.reduction.proofs.PlacesCut.{br, br_if, br_table}
use Rattle.reduction.proofs.laws.side_tables_tell_places.Goals as goal

pub returns : goal.returns
returns c = record {
  reached = λ m body depth contexts valid bodies reached. reached_placed m body valid bodies depth contexts reached;
  steps = leads;
  br = br;
  br_if = br_if;
  br_table = br_table;
  cut = left_by;
  stays = stays;
}
