use Rattle.claims.proofs.Others.{begins_claimed}
use Rattle.claims.proofs.claims.Claims.with_crew.Goals as goal

pub vacant-requires : goal.vacant-requires
vacant-requires c = begins_claimed _
