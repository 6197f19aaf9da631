pub mod Words
pub mod SpanLaws
pub mod WalkLaws
pub mod LimitLaws
pub mod NameLaws
pub mod LengthLaws
pub mod BodyLaws
pub mod SpotLaws
