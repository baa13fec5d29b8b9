-- Its three parts.
use Rattle.shape_files.proofs.Heading.{header_put}
use Rattle.shape_files.proofs.put_header.Goals as goal

pub returns : goal.returns
returns c =
    let a = c.args in
    header_put a.out.now a.words a.code a.b c.put_title.ensures c.put_bounds.ensures c.put_in.ensures
