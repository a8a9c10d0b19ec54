pub mod Piece
pub mod Close
pub mod Has
