-- What a writer asks for and what it leaves. The texts themselves are rules'.
pub mod Writers
